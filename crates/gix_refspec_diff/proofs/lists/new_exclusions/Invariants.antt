use Rattle.gix_refspec_diff.proofs.Common.{map, reading_of, take}
use Rattle.gix_refspec_diff.specs.Private.Searches.{AreNewExclusions}

abbrev pub invariant-loop-index : Rattle.gix_refspec_diff.proofs.lists.new_exclusions.Given.invariant-loop-index
invariant-loop-index l = AreNewExclusions (map reading_of l.one) (map reading_of (take l.index l.other))
    (map reading_of l.new.items)
