pub returns : Rattle.gix_refspec.proofs.laws.one_backward.Goals.returns
returns c = Rattle.gix_refspec_match.proofs.lemmas.hits.HitLemmas.one_backward _ _
