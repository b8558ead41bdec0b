use Rattle.gix_refspec_match.proofs.{Common.{map, list_of, name_bytes}, lemmas.index.PartialLemmas.ListSoFar}

abbrev pub invariant-loop-place :
    Rattle.gix_refspec_match.proofs.index.partials.places_of_partials.Given.invariant-loop-place
invariant-loop-place l = ListSoFar l.fn.candidates (map name_bytes l.names) l.items l.place (list_of l.places)
