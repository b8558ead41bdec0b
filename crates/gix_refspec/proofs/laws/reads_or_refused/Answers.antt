pub returns : Rattle.gix_refspec.proofs.laws.reads_or_refused.Goals.returns
returns c = Rattle.gix_refspec_text.proofs.lemmas.specs.FormsBackLemmas.once_or_refused c.args.operation c.args.text.now
