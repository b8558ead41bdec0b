-- Each iteration appends the line of one value.
use Rattle.std.proofs.Common.{◌<◌, length, arith}
use Rattle.refspec_map.proofs.MatchingLemmas.{lines_more}
use Rattle.refspec_map.proofs.output.lines_of.Goals as goal

pub loop-one-preserved : goal.loop-one-preserved
loop-one-preserved g c =
    let below : c.loop-one.one-index < length c.args.shown.now = omega arith in
    lines_more g.L.HasLine.line c.args.shown.now c.loop-one.one-index c.one-item.result c.loop-one.lines.items
    c.write_line.new.output.items below c.one-item.is c.in-Ok.ensures c.loop-one.invariant
