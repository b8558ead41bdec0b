-- the indexes of the claims so far
use Rattle.std.proofs.Common.{◌≡◌, map, take}
use Rattle.refspec_fetch.proofs.conflicts.contest_of.Given as goal

abbrev pub invariant-loop-claim : goal.invariant-loop-claim
invariant-loop-claim l = l.indexes.items ≡ map (λ c. c.index) (take l.claim-index l.claims)
