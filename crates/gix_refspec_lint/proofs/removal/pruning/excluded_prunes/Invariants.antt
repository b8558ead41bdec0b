use Rattle.gix_refspec_lint.proofs.Common.{map, take, AllByRecursion, Contains, Reading, reading_of, IsCompleted}
use Rattle.gix_refspec_lint.specs.Private.Removals.{AreLists, AreSameExcluded, WritesPatterns, rest_of}

abbrev pub invariant-loop-negative :
    Rattle.gix_refspec_lint.proofs.removal.pruning.excluded_prunes.Given.invariant-loop-negative
invariant-loop-negative l =
    (r : Reading) → AreLists r l.lists → WritesPatterns r l.near.0.now l.near.1.now l.far.0.now l.far.1.now
    → AllByRecursion (λ x. (e : Reading) → Contains (rest_of l.lists) e → IsCompleted e x
    → AreSameExcluded l.lists l.near.0.now l.near.1.now l.far.0.now l.far.1.now e)
    (map reading_of (take l.negative-index l.lists.others.now))
