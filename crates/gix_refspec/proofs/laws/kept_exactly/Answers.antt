pub returns : Rattle.gix_refspec.proofs.laws.kept_exactly.Goals.returns
returns c = Rattle.gix_refspec.proofs.lemmas.keep.PairMadeLemmas.kept_exactly _ _
