pub returns : Rattle.gix_refspec.proofs.laws.equal_texts.Goals.returns
returns c = Rattle.gix_refspec_text.proofs.lemmas.specs.FormsBackLemmas.equal_texts c.args.operation c.args.a.now
    c.args.b.now
