pub returns : Rattle.gix_refspec.proofs.laws.first_candidate.Goals.returns
returns c = Rattle.gix_refspec_text.proofs.lemmas.hits.CandidateLemmas.takes_first c.args.side.now _
