use Rattle.gix_refspec_match.proofs.Common.{IsSecond, HaveEqualElements, AreFlagged}

abbrev pub invariant-loop-at : Rattle.gix_refspec_match.proofs.duplicates.flags_by_order.Given.invariant-loop-at
invariant-loop-at g l = let order = g.T.Element.order in AreFlagged order l.elements
    (IsSecond (HaveEqualElements order) (λ p. p.index) l.placed.items) l.flags.items l.at
