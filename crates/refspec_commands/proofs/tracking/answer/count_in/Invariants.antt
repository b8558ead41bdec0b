-- at most each set so far contains the name
use Rattle.std.proofs.Common.{◌≤◌}
use Rattle.refspec_commands.proofs.tracking.answer.count_in.Given as goal

abbrev pub invariant-loop-set : goal.invariant-loop-set
invariant-loop-set l = l.count ≤ l.set-index
