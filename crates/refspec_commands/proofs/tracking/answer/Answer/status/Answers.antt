-- The status is 1 for a spec that was left out, or for a ref that isn't simply tracked.
use Rattle.std.proofs.Common.{◌≢◌, List, [], inl, inr, refl, sym, subst, ◌∙◌}
use Rattle.std.specs.List.{Any}
use Rattle.refspec_commands.specs.declared.tracking.answer.Found.TheVariants as how
use Rattle.refspec_commands.specs.declared.tracking.answer.Looked.{Looked}
use Rattle.refspec_commands.specs.declared.tracking.answer.Tracked.{Tracked}
use Rattle.refspec_commands.proofs.tracking.answer.Answer.status.Goals.{then-has_left_out, else-has_left_out}
use Rattle.refspec_commands.proofs.tracking.answer.Answer.status.Goals as goal

pub returns-then-has_exception : goal.returns-then-has_exception
returns-then-has_exception c = elim c.if-has_left_out.branch [
  | then-has_left_out w ↦ inl (
    refl,
    inl (subst (λ (l : List Tracked). Any (λ t. t.left_out.items ≢ []) l)
        c.as_slice.ensures.value (rw w.if-has_left_out.true at c.has_left_out.ensures)),
  )
  | else-has_left_out w ↦ inl (
    refl,
    inr (subst (λ (l : List Looked). Any (λ x. x.found ≢ how.Tracked) l)
        w.as_slice-else-has_left_out.ensures.value (rw (sym w.value-is ∙ c.if-has_exception.true) at
        w.has_exception.ensures)),
  )
]
