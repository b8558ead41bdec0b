pub returns : Rattle.gix_refspec.proofs.laws.first_stays.Goals.returns
returns c = Rattle.gix_refspec.proofs.lemmas.keep.PairMadeLemmas.first_stays _ _
