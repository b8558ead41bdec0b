pub returns : Rattle.gix_refspec.proofs.laws.one_forward.Goals.returns
returns c = Rattle.gix_refspec_match.proofs.lemmas.hits.HitLemmas.one_forward _ _
