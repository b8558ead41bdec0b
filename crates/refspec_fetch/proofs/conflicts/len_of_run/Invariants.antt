-- the claims so far have the first one's destination
use Rattle.std.proofs.Common.{◌≡◌, take, get_or}
use Rattle.std.specs.List.{AllByRecursion}
use Rattle.refspec_fetch.specs.declared.conflicts.Claimed.{Claimed}
use Rattle.refspec_fetch.proofs.conflicts.len_of_run.Given as goal

abbrev pub invariant-loop-len : goal.invariant-loop-len
invariant-loop-len l = (d : Claimed) → AllByRecursion (λ c. c.destination.now ≡ (get_or l.claims 0 d).destination.now)
    (take l.len l.claims)
