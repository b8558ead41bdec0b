pub returns : Rattle.gix_refspec.proofs.laws.one_refusal.Goals.returns
returns c = Rattle.gix_refspec_text.proofs.lemmas.parsing.RefusalLemmas.one_refusal c.args.operation c.args.text.now
