-- The lines of each update that is written are after the others.
use Rattle.std.proofs.Common.{map, refl, take}
use Rattle.gix_refspec_plan.specs.Views.Plan.{planned_of}
use Rattle.refspec_fetch.specs.Verdicts.{is_written, written_of}
use Rattle.refspec_fetch.proofs.GroupLemmas.{GroupedSoFar-next, GroupedSoFar-start}
use Rattle.refspec_fetch.proofs.VerdictLemmas.{written-next}
use Rattle.refspec_fetch.proofs.groups.write_grouped.Goals as goal

pub loop-update-init : goal.loop-update-init
loop-update-init c = GroupedSoFar-start c.args.table.now.texts.now c.args.out.now.items

pub loop-update-preserved : goal.loop-update-preserved
loop-update-preserved c =
    let xs = c.args.updates.now in
    let i = c.loop-update.update-index in
    let p = planned_of c.update-item.result in
    GroupedSoFar-next c.args.table.now.texts.now (written_of (map planned_of (take i xs))) _ p (is_written p.verdict)
    c.loop-update.before _ c.args.out.now.items c.loop-update.out.items c.add_below.new.out.items refl
    (written-next xs i c.update-item.result c.loop-update-test.true c.update-item.is) c.loop-update.invariant
    c.in_ok-add_below.ensures
