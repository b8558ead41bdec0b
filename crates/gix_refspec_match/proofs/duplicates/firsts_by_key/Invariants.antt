abbrev pub invariant-loop-at : Rattle.gix_refspec_match.proofs.duplicates.firsts_by_key.Given.invariant-loop-at
invariant-loop-at l = Rattle.gix_refspec_match.proofs.lemmas.duplicates.HashKeyLemmas.AreFirstsBelow l.len l.bits l.keys
    l.firsts.items l.first l.at
