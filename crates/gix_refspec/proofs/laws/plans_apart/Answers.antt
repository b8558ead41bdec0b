pub returns : Rattle.gix_refspec.proofs.laws.plans_apart.Goals.returns
returns c = Rattle.gix_refspec.proofs.lemmas.validate.AfterLemmas.plans_apart
