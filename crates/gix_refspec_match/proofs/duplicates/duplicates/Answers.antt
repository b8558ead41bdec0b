use Rattle.gix_refspec_match.proofs.lemmas.duplicates.HashKeyLemmas.{duplicates_from_keys}

pub flags_by_key-requires-clause-finds :
    Rattle.gix_refspec_match.proofs.duplicates.duplicates.Goals.flags_by_key-requires-clause-finds
flags_by_key-requires-clause-finds g c = rw c.as_slice.ensures.value (duplicates_from_keys _ (g.T.Element.hash _) _ _ _
    (g.met.T.Element.alike _) c.in_ok-keys.ensures.all c.in_ok-keys.ensures.rises)
