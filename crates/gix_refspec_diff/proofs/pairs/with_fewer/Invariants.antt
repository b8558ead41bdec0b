use Rattle.gix_refspec_diff.proofs.Common.{IsSourceExcluded, List, Reading, start_of}
use Rattle.gix_refspec_diff.specs.Private.Searches.{AreListsOf, IsShownBy}
use Rattle.gix_refspec_diff.specs.Views.Difference.{pair_example_of}

abbrev pub invariant-loop-left : Rattle.gix_refspec_diff.proofs.pairs.with_fewer.Given.invariant-loop-left
invariant-loop-left l =
    (g h : List Reading) → AreListsOf g h l.lists → ¬ (IsSourceExcluded g (start_of l.case.source.now))
    → IsShownBy g h l.case.index (pair_example_of l.fn.example)
    → IsShownBy g h l.case.index (pair_example_of l.example)
