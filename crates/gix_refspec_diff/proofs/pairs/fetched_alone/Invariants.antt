use Rattle.gix_refspec_diff.proofs.Common.{List, Reading, map, take}
use Rattle.gix_refspec_lint.proofs.Common.{IsMadeFrom}
use Rattle.gix_refspec_diff.specs.Matching.Difference.{IsFetchedAlone}
use Rattle.gix_refspec_diff.specs.Private.Searches.{AreListsOf}
use Rattle.gix_refspec_diff.specs.Views.Difference.{pair_example_of}

abbrev pub invariant-loop-index : Rattle.gix_refspec_diff.proofs.pairs.fetched_alone.Given.invariant-loop-index
invariant-loop-index l =
    (g h : List Reading) → AreListsOf g h l.lists
    → IsMadeFrom (λ k r e. IsFetchedAlone g h k e) 0 (take l.index g) (map pair_example_of l.found.items)
