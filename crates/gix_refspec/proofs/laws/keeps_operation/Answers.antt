pub returns : Rattle.gix_refspec.proofs.laws.keeps_operation.Goals.returns
returns c = Rattle.gix_refspec_text.proofs.lemmas.specs.SpecLemmas.keeps_operation c.args.operation c.args.text.now
