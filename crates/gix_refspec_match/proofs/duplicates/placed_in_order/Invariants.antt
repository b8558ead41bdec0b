use Rattle.gix_refspec_match.proofs.{Common.IsPlaced, lemmas.duplicates.OrderedLemmas.AreNumbered}

abbrev pub invariant-loop-index : Rattle.gix_refspec_match.proofs.duplicates.placed_in_order.Given.invariant-loop-index
invariant-loop-index g l = AreNumbered (λ p. p.index) (IsPlaced l.elements) l.placed.items l.index
