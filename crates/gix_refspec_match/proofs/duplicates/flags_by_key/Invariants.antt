use Rattle.gix_refspec_match.proofs.{Common.{◌≡◌, ◌<◌, get_or}, lemmas.duplicates.FlagLemmas.AreFlagged}

abbrev pub invariant-loop-index : Rattle.gix_refspec_match.proofs.duplicates.flags_by_key.Given.invariant-loop-index
invariant-loop-index g l = AreFlagged g.T.Element.order l.elements (λ i k. (i ≡ k) × (get_or l.firsts.items k k < k))
    l.flags.items l.index
