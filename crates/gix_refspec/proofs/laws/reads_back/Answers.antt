pub returns : Rattle.gix_refspec.proofs.laws.reads_back.Goals.returns
returns c = Rattle.gix_refspec_text.proofs.lemmas.specs.FormsBackLemmas.read_back c.args.operation c.args.text.now
