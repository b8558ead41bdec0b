use Rattle.gix_refspec_plan.proofs.Common.{inl, inr, map, refl, false≢true, IfOk-at_ok, reading_of, some_element}
use Rattle.gix_refspec_plan.proofs.lemmas.stale.StateLemmas.{all_accepted, excluded_kept, included_stale, tell_next}
use Rattle.gix_refspec_plan.proofs.lemmas.stale.StateLemmas.{tell_none}
use Rattle.gix_refspec_plan.proofs.stale.stale_refs.Goals as goal

pub loop-item_index-preserved-then-is_flagged : goal.loop-item_index-preserved-then-is_flagged
loop-item_index-preserved-then-is_flagged c =
    tell_none c.args.specs.now _ _ c.in_ok-written.ensures c.args.local.now _
    (rw c.as_slice-3.ensures.value at c.in_ok-flags.ensures) c.loop-item_index.item_index
    (some_element c.args.local.now c.loop-item_index.item_index c.loop-item_index-test.true) c.loop-item_index-test.true
    c.loop-item_index.stale.items c.loop-item_index.invariant
    (inl (rw c.as_slice-in-loop-item_index.ensures.value at (c.if-is_flagged.ensures.0 refl)))

pub loop-item_index-preserved : goal.loop-item_index-preserved
loop-item_index-preserved c =
    let specs = c.args.specs.now in
    let told = rw c.as_slice-3.ensures.value at c.in_ok-flags.ensures in
    let i = c.loop-item_index.item_index in
    let old = c.loop-item_index.stale.items in
    let state = IfOk-at_ok _ c.in_ok-state_of.was (c.state_of.ensures (map reading_of specs) c.in_ok-writers.ensures) in
    let flagged = rw c.as_slice-in-loop-item_index.ensures.value at c.if-is_flagged.ensures in
    elim c.match-branch-7.branch [
      | goal.in-Unwritable w ↦
          rw w.stale-is
          (tell_none specs _ _ c.in_ok-written.ensures c.args.local.now _ told i _ c.loop-item_index-test.true old
          c.loop-item_index.invariant (inr (rw w.in-Unwritable.is at state)))
      | goal.in-Included+in_ok-push-in-Included w ↦ rw w.stale-is
          (tell_next specs _ _ c.in_ok-written.ensures c.args.local.now _ told i _ c.loop-item_index-test.true old
          c.loop-item_index.invariant _ _ refl (λ flag. false≢true (flagged.1 flag))
          (λ unwritten. included_stale (map reading_of specs) _ _ (all_accepted specs) c.in_ok-written.ensures _
          unwritten (rw w.in-Included.is at state)) w.in_ok-push-in-Included.ensures.items)
      | goal.in-Excluded+in_ok-push-in-Excluded w ↦ rw w.stale-is
          (tell_next specs _ _ c.in_ok-written.ensures c.args.local.now _ told i _ c.loop-item_index-test.true old
          c.loop-item_index.invariant _ _ refl (λ flag. false≢true (flagged.1 flag))
          (λ unwritten. excluded_kept (map reading_of specs) _ _ (all_accepted specs) c.in_ok-written.ensures _ _
          unwritten (rw w.in-Excluded.is at state)) w.in_ok-push-in-Excluded.ensures.items)
    ]
