pub returns : Rattle.gix_refspec.proofs.laws.prefix_begins.Goals.returns
returns c = Rattle.gix_refspec_text.proofs.lemmas.hits.MatchLemmas.prefix_begins c.args.side.now
