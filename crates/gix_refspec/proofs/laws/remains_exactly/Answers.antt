pub returns : Rattle.gix_refspec.proofs.laws.remains_exactly.Goals.returns
returns c = Rattle.gix_refspec.proofs.lemmas.MadeLemmas.remains_exactly _ _
