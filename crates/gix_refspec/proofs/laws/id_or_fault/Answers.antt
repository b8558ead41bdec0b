pub returns : Rattle.gix_refspec.proofs.laws.id_or_fault.Goals.returns
returns c = Rattle.gix_refspec_text.proofs.lemmas.texts.ObjectIdLemmas.id_or_fault c.args.text.now
