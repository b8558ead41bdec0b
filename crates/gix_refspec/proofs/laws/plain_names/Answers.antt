pub returns : Rattle.gix_refspec.proofs.laws.plain_names.Goals.returns
returns c = Rattle.gix_refspec.proofs.lemmas.specs.SideLawLemmas.plain_names
