-- Each iteration appends the line of one fix.
use Rattle.std.proofs.Common.{◌<◌, length, arith}
use Rattle.refspec_map.proofs.MatchingLemmas.{on_success}
use Rattle.refspec_map.proofs.PlanLemmas.{AppendsFixes-start, AppendsFixes-more}
use Rattle.refspec_map.proofs.output.append_fixes.Goals as goal

pub loop-fix-init : goal.loop-fix-init
loop-fix-init c = AppendsFixes-start c.args.output.now.items

pub loop-fix-preserved : goal.loop-fix-preserved
loop-fix-preserved c =
    let below : c.loop-fix.fix-index < length c.args.fixes.now = omega arith in
    AppendsFixes-more c.args.fixes.now c.loop-fix.fix-index c.fix-item.result c.args.output.now.items
    c.loop-fix.output.items c.write_fix.new.output.items below c.fix-item.is
    (on_success c.write_fix.result _ c.write_fix.ensures c.in_ok-grown.ensures.ok) c.loop-fix.invariant
