use Rattle.std.proofs.Common.{length}
use Rattle.refspec_map.proofs.OutputLemmas.{Completes}
use Rattle.refspec_map.proofs.canon.canon.Given as goal

-- any answers to the lines of the rest complete the output
abbrev pub invariant-loop-rest : goal.invariant-loop-rest
invariant-loop-rest l = Completes l.operation l.input l.output.items l.refusal l.rest

abbrev pub decreases-loop-rest : goal.decreases-loop-rest
decreases-loop-rest l = length l.rest
