use Rattle.gix_refspec_match.proofs.Common.{map, take, HavePlaces, list_of, ref_of, name_bytes}

abbrev pub invariant-loop-place : Rattle.gix_refspec_match.proofs.index.places_of.Given.invariant-loop-place
invariant-loop-place l = HavePlaces (map name_bytes l.names) (map ref_of (take l.place l.items)) (list_of l.places)
