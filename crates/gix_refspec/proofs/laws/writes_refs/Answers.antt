pub returns : Rattle.gix_refspec.proofs.laws.writes_refs.Goals.returns
returns c = Rattle.gix_refspec.proofs.lemmas.validate.RefNameLemmas.writes_refs _ _
