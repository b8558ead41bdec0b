use Rattle.gix_refspec_plan.proofs.Common.{◌≡◌, ◌≢◌, [], map, refl, sym, take_all, arith, eqb-true, false≢true}
use Rattle.gix_refspec_plan.proofs.Common.{nil_from_length, All-map, All-more, recursion_from_All, IsCarriedOut}
use Rattle.gix_refspec_plan.proofs.Common.{Planned, planned_of, each_mapped, InConflict}
use Rattle.gix_refspec_plan.proofs.Plan.is_carried_out.Goals as goal

abbrev IsPlannedFree : Planned → Type 0
IsPlannedFree p = p.verdict ≢ InConflict

pub loop-update-preserved : goal.loop-update-preserved
loop-update-preserved c = All-more (λ u. u.verdict ≢ InConflict) c.deref-update-items.result.now _ _
    c.loop-update-test.true c.loop-update.invariant (rw c.update-item.is at c.in_default.not-InConflict)

pub returns-in-InConflict : goal.returns-in-InConflict
returns-in-InConflict c = (
  (λ told. absurd (false≢true told)),
  (λ carried. absurd (each_mapped planned_of IsPlannedFree c.args.self.now.updates.items c.loop-update.update-index
      c.update-item.result carried.free (rw c.deref-update-items.ensures.value at c.loop-update-test.true)
      (rw c.deref-update-items.ensures.value at c.update-item.is) c.in-InConflict.is)),
)

pub returns : goal.returns
returns c =
    let plan = c.args.self.now in
    let none : plan.missing.items ≡ [] = nil_from_length plan.missing.items
    (let empty = eqb-true _ _ (sym c.if-not-is_empty.ensures) in omega (
      arith,
      empty,
      plan.missing.ok.0,
      plan.missing.ok.1,
    )) in
    let all = rw (
      take_all c.loop-update.update-index c.deref-update-items.result.now (omega arith),
      c.deref-update-items.ensures.value,
    ) at c.loop-update.invariant in
    let carried : IsCarriedOut (map planned_of plan.updates.items) plan.missing.items =
    record {
      whole = none;
      free = recursion_from_All IsPlannedFree (map planned_of plan.updates.items)
          (All-map IsPlannedFree planned_of plan.updates.items all);
    } in
    ((λ told. carried), (λ fetched. refl))
