use Rattle.gix_refspec_match.proofs.Common.{map, take, reading_of, IsJoinedFrom, AreMatcherOf, AreObjectsOf, First}

abbrev pub invariant-loop-spec_index :
    Rattle.gix_refspec_match.proofs.matcher.Matchers.forward.Given.invariant-loop-spec_index
invariant-loop-spec_index l =
    IsJoinedFrom (AreMatcherOf First l.equal.items) 0 (map reading_of (take l.spec_index l.specs)) l.list.items
    × AreObjectsOf (map reading_of (take l.spec_index l.specs)) l.objects.items
