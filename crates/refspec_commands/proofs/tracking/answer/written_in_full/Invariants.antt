-- there is a set for each remote so far
use Rattle.std.proofs.Common.{◌≡◌, length}
use Rattle.refspec_commands.proofs.tracking.answer.written_in_full.Given as goal

abbrev pub invariant-loop-remote : goal.invariant-loop-remote
invariant-loop-remote l = length l.sets.items ≡ l.remote-index
