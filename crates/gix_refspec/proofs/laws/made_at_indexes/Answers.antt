pub returns : Rattle.gix_refspec.proofs.laws.made_at_indexes.Goals.returns
returns c = Rattle.gix_refspec.proofs.lemmas.MadeLemmas.made_at_indexes _ _
