use Rattle.gix_refspec_match.proofs.Common.{map, take, HaveLengths, ListPrefixes, list_of, ref_of}

abbrev pub invariant-loop-place :
    Rattle.gix_refspec_match.proofs.index.prefixes.places_of_prefixes.Given.invariant-loop-place
invariant-loop-place l = HaveLengths l.lengths.items (list_of l.places)
    × ListPrefixes (map ref_of (take l.place l.items)) (list_of l.places)
