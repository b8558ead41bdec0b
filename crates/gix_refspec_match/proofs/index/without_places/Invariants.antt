use Rattle.gix_refspec_match.proofs.Common.{[], map, take, HavePlaces, list_of, name_bytes}

abbrev pub invariant-loop-name : Rattle.gix_refspec_match.proofs.index.without_places.Given.invariant-loop-name
invariant-loop-name l = HavePlaces (map name_bytes (take l.name-index l.names)) [] (list_of l.places)
