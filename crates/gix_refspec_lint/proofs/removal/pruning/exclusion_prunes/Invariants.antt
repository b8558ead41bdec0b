use Rattle.gix_refspec_lint.proofs.Common.{map, take, AllByRecursion, Contains, Reading, reading_of, IsCompleted}
use Rattle.gix_refspec_lint.specs.Private.Removals.{AreLists, AreSameWithout, rest_of}

abbrev pub invariant-loop-spec :
    Rattle.gix_refspec_lint.proofs.removal.pruning.exclusion_prunes.Given.invariant-loop-spec
invariant-loop-spec l =
    (r : Reading) → AreLists r l.lists → IsCompleted r (reading_of l.negative)
    → AllByRecursion (λ c. (q : Reading) → Contains (rest_of l.lists) q → IsCompleted q c → AreSameWithout l.lists r q)
    (map reading_of (take l.spec-index l.lists.others.now))
