use Rattle.std.proofs.Common.{length}
use Rattle.refspec_io.proofs.RecordLemmas.{Completes}
use Rattle.refspec_io.proofs.input.records.Given as goal

-- any split of the rest into records completes the records so far
abbrev pub invariant-loop-rest : goal.invariant-loop-rest
invariant-loop-rest l = Completes l.end l.records.items l.rest l.input

abbrev pub decreases-loop-rest : goal.decreases-loop-rest
decreases-loop-rest l = length l.rest
