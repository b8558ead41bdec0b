pub returns : Rattle.gix_refspec.proofs.laws.no_control_character.Goals.returns
returns c = Rattle.gix_refspec.proofs.lemmas.validate.ClearLemmas.no_control_character
