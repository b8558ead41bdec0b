use Rattle.std.proofs.Common.{length}
use Rattle.refspec_map.proofs.EntryLemmas.{Reaches}
use Rattle.refspec_map.proofs.line.Entries.read.Given as goal

-- the lines so far gave the entries
abbrev pub invariant-loop-rest : goal.invariant-loop-rest
invariant-loop-rest l = Reaches l.blank l.input l.entries l.number l.rest

abbrev pub decreases-loop-rest : goal.decreases-loop-rest
decreases-loop-rest l = length l.rest
