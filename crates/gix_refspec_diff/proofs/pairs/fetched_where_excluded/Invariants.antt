use Rattle.gix_refspec_diff.proofs.Common.{AllByRecursion, List, Reading, map, reading_of, take}
use Rattle.gix_refspec_diff.specs.Private.Searches.{AreListsOf, NoneByExclusion, words_in}

abbrev pub invariant-loop-negative :
    Rattle.gix_refspec_diff.proofs.pairs.fetched_where_excluded.Given.invariant-loop-negative
invariant-loop-negative l =
    (g h : List Reading) → AreListsOf g h l.lists
    → AllByRecursion (NoneByExclusion g h l.index (words_in l.lists) l.texts.0.now l.texts.1.now)
    (map reading_of (take l.negative-index l.lists.exclusions.now))
