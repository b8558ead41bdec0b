pub returns : Rattle.gix_refspec.proofs.laws.one_of_each.Goals.returns
returns c = Rattle.gix_refspec.proofs.lemmas.specs.SideLawLemmas.one_of_each
