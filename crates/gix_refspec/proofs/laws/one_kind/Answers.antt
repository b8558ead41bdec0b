pub returns : Rattle.gix_refspec.proofs.laws.one_kind.Goals.returns
returns c = Rattle.gix_refspec_match.proofs.lemmas.hits.HitLemmas.one_kind c.args.side.now
