use Rattle.gix_refspec_match.proofs.{Common.list_of, lemmas.index.IndexLemmas.AddsBelow}

abbrev pub invariant-loop-len : Rattle.gix_refspec_match.proofs.index.prefixes.add_place.Given.invariant-loop-len
invariant-loop-len l = AddsBelow l.len l.name l.place (list_of l.initial.places) (list_of l.places)
