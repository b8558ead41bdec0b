-- The origin at each index of a missing source, unless it may be missing.
use Rattle.gix_refspec_plan.proofs.Common.{refl, None, Some, append-nil, map, sym, ◌∙◌, slice_index_or, subst, take_all}
use Rattle.gix_refspec_plan.proofs.Common.{arith, rules, MatchBool-at_false, MatchBool-at_true, MayBeMissing, asked_of}
use Rattle.gix_refspec_plan.proofs.Common.{ap, get_or-map, Asked, all_tags, AllTags, ◌≡◌}
use Rattle.gix_refspec_plan.proofs.lemmas.plan.SpecLemmas.{lacking_made, missing_within, origin_next}
use Rattle.gix_refspec_plan.proofs.missing_of.Goals as goal

pub bounds-asked-index : goal.bounds-asked-index
bounds-asked-index c =
    missing_within c.args.asked.now _ _ _ _ _ c.loop-index.index-index c.in_ok-specs.ensures c.as_slice.ensures.value
    c.in_ok-missing_sources.ensures c.as_slice-index-items.ensures.value c.loop-index-test.true

pub bounds-asked-index-in-loop-index : goal.bounds-asked-index-in-loop-index
bounds-asked-index-in-loop-index c = bounds-asked-index c

pub offset_bounds-asked-index : goal.offset_bounds-asked-index
offset_bounds-asked-index c = let below = bounds-asked-index c in search rules

pub loop-index-preserved : goal.loop-index-preserved
loop-index-preserved c =
    let asked = c.args.asked.now in
    let indexes = c.as_slice-index-items.result.now in
    let i = c.loop-index.index-index in
    let a = c.index-asked-index.result in
    let inside = missing_within asked _ _ _ _ indexes i c.in_ok-specs.ensures c.as_slice.ensures.value
    c.in_ok-missing_sources.ensures c.as_slice-index-items.ensures.value c.loop-index-test.true in
    let n = slice_index_or indexes i 0 in
    let from : (slice_index_or asked n a).origin
    ≡ (slice_index_or (map asked_of asked) n (record { reading = all_tags; origin = AllTags })).origin =
    ap (λ (x : Asked). x.origin) (sym (get_or-map asked_of asked n a _ inside)) in
    elim c.if-not-may_be_missing.branch [
      | goal.then-not-may_be_missing+in_ok-push w ↦ rw w.missing-is
          (origin_next (map asked_of asked) indexes i 0 c.loop-index.missing.items _
          (Some (slice_index_or asked n a).origin) c.loop-index-test.true c.loop-index.invariant
          (from, MatchBool-at_false _ _ w.if-not-may_be_missing.true c.may_be_missing.ensures)
          w.in_ok-push.ensures.items)
      | goal.else-not-may_be_missing w ↦ rw w.missing-is
          (origin_next (map asked_of asked) indexes i 0 c.loop-index.missing.items _ None c.loop-index-test.true
          c.loop-index.invariant
          (λ o both. both.1
          (subst MayBeMissing (from ∙ sym both.0)
          (MatchBool-at_true _ _ w.if-not-may_be_missing.false c.may_be_missing.ensures)))
          (sym (append-nil c.loop-index.missing.items)))
    ]

pub returns : goal.returns
returns c =
    let found = rw (c.as_slice.ensures.value, c.in_ok-specs.ensures) at c.in_ok-missing_sources.ensures in
    lacking_made (map asked_of c.args.asked.now) _ 0 0 _ _ _ refl (rw c.as_slice-index-items.ensures.value found)
    (rw (take_all c.loop-index.index-index c.as_slice-index-items.result.now (omega arith)) at c.loop-index.invariant)
