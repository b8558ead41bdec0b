pub returns : Rattle.gix_refspec.proofs.laws.one_validation.Goals.returns
returns c = Rattle.gix_refspec.proofs.lemmas.validate.OneValidationLemmas.one_validation _ _
