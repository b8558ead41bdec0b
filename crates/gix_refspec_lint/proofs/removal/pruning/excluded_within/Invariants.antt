use Rattle.gix_refspec_lint.proofs.Common.{ℕ, List, map, take, AllByRecursion, Contains, Reading, reading_of}
use Rattle.gix_refspec_lint.proofs.Common.{IsCompleted}
use Rattle.gix_refspec_lint.specs.Private.Removals.{AreLists, AreSameWithin, ExcludesWithin, WritesPatterns, rest_of}

abbrev pub invariant-loop-other :
    Rattle.gix_refspec_lint.proofs.removal.pruning.excluded_within.Given.invariant-loop-other
invariant-loop-other l =
    (r e : Reading) (p t : List ℕ) (are : AreLists r l.lists) → WritesPatterns r p t l.far.0.now l.far.1.now
    → Contains (rest_of l.lists) e → ExcludesWithin are.letter e p t l.far.0.now l.far.1.now l.within.0.now
    l.within.1.now
    → AllByRecursion (λ x. (q : Reading) → Contains (rest_of l.lists) q → IsCompleted q x
    → AreSameWithin l.lists l.far.0.now l.far.1.now l.within.0.now l.within.1.now q)
    (map reading_of (take l.other-index l.lists.others.now))
