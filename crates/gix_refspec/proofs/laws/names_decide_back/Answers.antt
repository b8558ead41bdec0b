pub returns : Rattle.gix_refspec.proofs.laws.names_decide_back.Goals.returns
returns c = Rattle.gix_refspec.proofs.lemmas.keep.NameOnlyLemmas.names_decide_back _ _
