use Rattle.gix_refspec_match.proofs.{Common.{map, index_in, IsKey}, lemmas.duplicates.OrderedLemmas.AreNumbered}

abbrev pub invariant-loop-index : Rattle.gix_refspec_match.proofs.duplicates.keys_in_order.Given.invariant-loop-index
invariant-loop-index g l = AreNumbered (index_in l.bits) (IsKey (map (g.T.Element.hash l.seed) l.elements) l.bits)
    l.keys.items l.index
