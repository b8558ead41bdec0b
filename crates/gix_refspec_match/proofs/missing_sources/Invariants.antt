use Rattle.gix_refspec_match.proofs.{Common.{take, IsMadeFrom}, lemmas.hits.MatcherLemmas.IsLacking}

abbrev pub invariant-loop-matcher : Rattle.gix_refspec_match.proofs.missing_sources.Given.invariant-loop-matcher
invariant-loop-matcher l = IsMadeFrom (IsLacking l.index) 0 (take l.matcher-index l.matcher-items) l.missing.items
