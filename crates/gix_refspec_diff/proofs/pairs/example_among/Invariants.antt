use Rattle.gix_refspec_diff.proofs.Common.{AllByRecursion, List, Reading, map, start_of, take}
use Rattle.gix_refspec_diff.specs.Private.Searches.{AreListsOf, AreNoneFrom}

abbrev pub invariant-loop-source : Rattle.gix_refspec_diff.proofs.pairs.example_among.Given.invariant-loop-source
invariant-loop-source l =
    (g h : List Reading) → AreListsOf g h l.lists
    → AllByRecursion (AreNoneFrom g h l.index) (map start_of (take l.source-index l.source-items))
