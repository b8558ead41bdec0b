pub returns : Rattle.gix_refspec.proofs.laws.one_prefix.Goals.returns
returns c = Rattle.gix_refspec_text.proofs.lemmas.prefixes.OnePrefixLemmas.one_prefix c.args.side.now
