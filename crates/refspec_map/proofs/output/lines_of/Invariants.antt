use Rattle.std.proofs.Common.{◌≡◌, take, flat_map}
use Rattle.refspec_map.proofs.output.lines_of.Given as goal

-- the lines are those of the values so far
abbrev pub invariant-loop-one : goal.invariant-loop-one
invariant-loop-one g l = l.lines.items ≡ flat_map g.L.HasLine.line (take l.one-index l.shown)
