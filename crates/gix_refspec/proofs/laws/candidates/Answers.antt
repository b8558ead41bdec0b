pub returns : Rattle.gix_refspec.proofs.laws.candidates.Goals.returns
returns c = Rattle.gix_refspec_text.proofs.lemmas.hits.MatchLemmas.has_candidates c.args.side.now
