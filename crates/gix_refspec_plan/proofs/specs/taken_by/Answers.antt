use Rattle.gix_refspec_plan.proofs.Common.{None, Some, append-nil, map, refl, sym, ap, ◌∙◌, take_all, arith, false≢true}
use Rattle.gix_refspec_plan.proofs.Common.{ref_of, made_more, slice_index_or, get_or_default, some_element, IsTakenAt}
use Rattle.gix_refspec_plan.proofs.Common.{mapped_of, rules}
use Rattle.gix_refspec_plan.proofs.lemmas.plan.MadeLemmas.{made_one}
use Rattle.gix_refspec_plan.proofs.specs.taken_by.Goals as goal

pub loop-index-preserved : goal.loop-index-preserved
loop-index-preserved c =
    let items = c.args.items.now in
    let i = c.loop-index.index in
    let below = c.loop-index-test.true in
    let d = some_element items i below in
    let taken = c.loop-index.taken in
    let flag = rw c.as_slice-in-loop-index.ensures.value at c.is_flagged.ensures in
    let each = (rw c.as_slice-4.ensures.value at c.in_ok-flags.ensures).each i below in
    elim c.if-is_flagged.branch [
      | goal.then-is_flagged+in_ok-push+in_ok-push-2 w ↦
          let takes = each.0 (flag.0 w.if-is_flagged.true) in
          rw w.taken-is (
            made_more _ ref_of items i d taken.indexes.items _ (Some i) below c.loop-index.invariant.0
                (refl, takes) w.in_ok-push-2.ensures.items,
            made_one _ ref_of ref_of items i (slice_index_or items i d) taken.items.items below
                (get_or_default items i d _ below) c.loop-index.invariant.1 _ _
                (ap ref_of (get_or_default items i _ d below), takes) w.in_ok-push.ensures.items,
          )
      | goal.else-is_flagged w ↦
          let apart : ¬ (IsTakenAt (map mapped_of c.in_ok-mappings.mappings.items) i) =
          λ takes. false≢true (sym w.if-is_flagged.false ∙ flag.1 (each.1 takes)) in
          rw w.taken-is (
            made_more _ ref_of items i d taken.indexes.items _ None below c.loop-index.invariant.0
                (λ y both. apart both.1) (sym (append-nil _)),
            made_more _ ref_of items i d (map ref_of taken.items.items) _ None below c.loop-index.invariant.1
                (λ y both. apart both.1) (sym (append-nil _)),
          )
    ]

pub returns : goal.returns
returns c =
    let picked = rw (take_all c.loop-index.index c.args.items.now (omega arith)) at c.loop-index.invariant in
    let mapped = rw c.as_slice-2.ensures.value at c.in_ok-mappings.ensures in
    search (rules, picked.0, picked.1, mapped, c.in_ok-positive.ensures)
