-- Each reason for status 1 is one by which the fetch doesn't end well.
use Rattle.std.proofs.Common.{◌≡◌, ◌≢◌, ◌∙◌, List, [], inl, inr, map, refl, subst, sym}
use Rattle.std.proofs.lemmas.Bool.{false≢true}
use Rattle.gix_refspec_plan.specs.declared.Update.{Update}
use Rattle.gix_refspec_plan.specs.Views.Plan.{planned_of}
use Rattle.refspec_fetch.specs.Verdicts.{failing_of}
use Rattle.refspec_fetch.proofs.AnswerLemmas.{none_of, none_read, some_of, some_read}
use Rattle.refspec_fetch.proofs.answer.Answer.status.Goals as goal

pub returns-then-not-is_carried_out : goal.returns-then-not-is_carried_out
returns-then-not-is_carried_out c =
    inr (refl, λ well. false≢true (sym c.if-not-is_carried_out.true ∙ c.is_carried_out.ensures.1 well.carried))

pub returns-then-not-is_empty : goal.returns-then-not-is_empty
returns-then-not-is_empty c =
    inr (refl, λ well. some_read _ (some_of _ _ c.is_empty.ensures c.if-not-is_empty.true) well.read)

pub returns-then-not-asks_updates : goal.returns-then-not-asks_updates
returns-then-not-asks_updates c = inl (
  refl,
  record {
    carried = c.is_carried_out.ensures.0 c.if-not-is_carried_out.false;
    read = none_read _ (none_of _ _ c.is_empty.ensures c.if-not-is_empty.false);
    free = λ is. false≢true (sym (sym c.asks_updates.ensures ∙ c.if-not-asks_updates.true) ∙ is.0);
  },
)

pub returns-then-has_failing : goal.returns-then-has_failing
returns-then-has_failing c =
    let some = subst (λ (l : List Update). failing_of (map planned_of l) ≢ []) c.as_slice.ensures.value
    (rw c.if-has_failing.true at c.has_failing.ensures) in
    inr (refl, λ well. well.free (sym c.asks_updates.ensures ∙ c.if-not-asks_updates.false, some))

pub returns-else-has_failing : goal.returns-else-has_failing
returns-else-has_failing c =
    let none = subst (λ (l : List Update). failing_of (map planned_of l) ≡ []) c.as_slice.ensures.value
    (rw c.if-has_failing.false at c.has_failing.ensures) in
    inl (
      refl,
      record {
        carried = c.is_carried_out.ensures.0 c.if-not-is_carried_out.false;
        read = none_read _ (none_of _ _ c.is_empty.ensures c.if-not-is_empty.false);
        free = λ is. is.1 none;
      },
    )
