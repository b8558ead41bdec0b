-- an element is flagged where it equals the one before it
use Rattle.gix_refspec_match.proofs.Common.{sym, ◌∙◌, arith, inl, ap, ◌-◌, false≢true, get_or_read}
use Rattle.gix_refspec_match.proofs.lemmas.duplicates.FlagLemmas.{equal_told, flags_all, flags_raised, flags_same}
use Rattle.gix_refspec_match.proofs.lemmas.duplicates.OrderedLemmas.{duplicate_follows, follower_is_duplicate}
use Rattle.gix_refspec_match.proofs.duplicates.flags_by_order.Goals as goal

pub loop-at-preserved : goal.loop-at-preserved
loop-at-preserved g c =
    let at = c.loop-at.at in
    let p_is = c.index-in-loop-at.ensures in
    elim c.if-is_eq.branch [
      | goal.then-is_eq+in_ok-raise w ↦
          let same = equal_told c.compare.result (inl (sym c.is_eq.ensures ∙ w.if-is_eq.true)) in
          rw w.flags-is (flags_raised c.loop-at.invariant _ _ w.in_ok-raise.ensures.fits w.in_ok-raise.ensures.raised
          (follower_is_duplicate g.met.T.Element.total c.in_ok-placed.ensures.all c.in_ok-placed.ensures.order at _ _
          (omega arith) (omega arith) c.index.ensures p_is (rw (← c.compare.ensures) same))
          (λ k second. ap (λ x. x.index) p_is ∙ second.here c.index-in-loop-at.result.now))
      | goal.else-is_eq w ↦ rw w.flags-is (flags_same c.loop-at.invariant (λ k second.
          let q_is = get_or_read c.in_ok-placed.placed.items (at - 1) _ (omega arith) c.index.ensures
          c.index-in-loop-at.result.now in
          false≢true (sym
          (rw (
            c.is_eq.ensures,
            c.compare.ensures,
            rw (← p_is, ← q_is) at (second.same c.index-in-loop-at.result.now),
          ) at w.if-is_eq.false))))
    ]

pub returns : goal.returns
returns g c = flags_all c.loop-at.invariant (λ k duplicate.
    let (at, second) = duplicate_follows g.met.T.Element.total c.in_ok-placed.ensures.all c.in_ok-placed.ensures.order k
    duplicate in
    (at, omega (arith, second.inside), second))
