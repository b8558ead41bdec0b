pub returns : Rattle.gix_refspec.proofs.laws.forward_fits.Goals.returns
returns c = Rattle.gix_refspec.proofs.lemmas.validate.AfterLemmas.forward_fits _ _
