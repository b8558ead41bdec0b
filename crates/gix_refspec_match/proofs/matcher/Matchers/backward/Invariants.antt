use Rattle.gix_refspec_match.proofs.Common.{map, take, reading_of, IsJoinedFrom, AreMatcherOf, All}

abbrev pub invariant-loop-spec_index :
    Rattle.gix_refspec_match.proofs.matcher.Matchers.backward.Given.invariant-loop-spec_index
invariant-loop-spec_index l = IsJoinedFrom (AreMatcherOf All l.equal.items) 0
    (map reading_of (take l.spec_index l.specs)) l.list.items
