use Rattle.gix_refspec_match.proofs.Common.{map, take, IsJoinedFrom, AreFound, ref_of}

abbrev pub invariant-loop-matcher_index :
    Rattle.gix_refspec_match.proofs.hits.hits_within.Given.invariant-loop-matcher_index
invariant-loop-matcher_index l = IsJoinedFrom (AreFound l.matchers.candidates (map ref_of l.items)) 0
    (take l.matcher_index l.matchers.list.items) l.hits.items
