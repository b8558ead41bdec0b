use Rattle.std.proofs.Common.{◌<◌, ◌≤◌, ◌-◌, length}
use Rattle.std.specs.Io.KnownBytes.{Consumes}
use Rattle.refspec_map.proofs.input.read_input.Given as goal

-- the input has what was taken so far, within the limit
abbrev pub invariant-loop-input : goal.invariant-loop-input
invariant-loop-input g l = record {
  taken : Consumes (g.R.Read.remaining l.fn.reader) (g.R.Read.remaining l.reader) l.input.items;
  within : length l.input.items ≤ 1048576;
  room : 0 < length l.buffer.items;
}

abbrev pub decreases-loop-input : goal.decreases-loop-input
decreases-loop-input g l = 1048577 - length l.input.items
