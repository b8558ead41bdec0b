use Rattle.gix_refspec_match.proofs.Common.{map, take, reading_of, AreExclusionsAt, AreExclusionsOf}

abbrev pub invariant-loop-index : Rattle.gix_refspec_match.proofs.exclusions.Exclusions.of.Given.invariant-loop-index
invariant-loop-index l = AreExclusionsOf (map reading_of (take l.index l.specs)) l.exclusions
    × AreExclusionsAt (map reading_of (take l.index l.specs)) l.exclusions
