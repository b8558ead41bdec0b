pub returns : Rattle.gix_refspec.proofs.laws.item_indexes_fit.Goals.returns
returns c = Rattle.gix_refspec.proofs.lemmas.MadeLemmas.item_indexes_fit _ _
