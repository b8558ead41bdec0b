pub returns : Rattle.gix_refspec.proofs.laws.nothing_excluded.Goals.returns
returns c = Rattle.gix_refspec.proofs.lemmas.keep.PairMadeLemmas.nothing_excluded _ _
