-- The status is 0 if each branch has an upstream.
use Rattle.std.proofs.Common.{List, inl, inr, refl, subst}
use Rattle.std.specs.List.{All, Any}
use Rattle.refspec_commands.specs.declared.upstreams.answer.Found.{Found}
use Rattle.refspec_commands.specs.Upstreams.{FindsUpstream}
use Rattle.refspec_commands.proofs.upstreams.answer.Answer.status.Goals as goal

pub returns-then-has_all : goal.returns-then-has_all
returns-then-has_all c = inl (
  refl,
  subst (λ (l : List Found). All FindsUpstream l) c.as_slice.ensures.value
      (rw c.if-has_all.true at c.has_all.ensures),
)

pub returns-else-has_all : goal.returns-else-has_all
returns-else-has_all c = inr (
  refl,
  subst (λ (l : List Found). Any (λ x. ¬ (FindsUpstream x)) l) c.as_slice.ensures.value
      (rw c.if-has_all.false at c.has_all.ensures),
)
