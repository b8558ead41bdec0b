pub returns : Rattle.gix_refspec.proofs.laws.nothing_against.Goals.returns
returns c = Rattle.gix_refspec_text.proofs.lemmas.parsing.SideLemmas.nothing_against c.args.pattern.now
