pub returns : Rattle.gix_refspec.proofs.laws.one_word.Goals.returns
returns c = Rattle.gix_refspec_text.proofs.lemmas.hits.MatchLemmas.one_word c.args.before.now c.args.after.now
    c.args.name.now
