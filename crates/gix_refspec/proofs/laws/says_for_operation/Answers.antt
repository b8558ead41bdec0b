pub returns : Rattle.gix_refspec.proofs.laws.says_for_operation.Goals.returns
returns c = Rattle.gix_refspec_text.proofs.lemmas.specs.SpecLemmas.says_for_operation _
