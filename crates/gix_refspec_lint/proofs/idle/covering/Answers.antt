use Rattle.gix_refspec_lint.proofs.Common.{inl, inr, sym, ◌∙◌, subst, arith, upto, IsAtWork}
use Rattle.gix_refspec_lint.proofs.lemmas.IdleSpecLemmas.{why_none, why_some}
use Rattle.gix_refspec_lint.specs.Private.Idles.{alone_at}
use Rattle.gix_refspec_lint.proofs.idle.covering.Goals as goal

pub returns-then-is_some : goal.returns-then-is_some
returns-then-is_some c g is r at positive = (
  c.loop-at-test.true,
  why_some g (alone_at c.loop-at.at) c.args.index r _
      (sym c.is_some.ensures ∙ c.if-is_some.true) (c.in_ok-idle_beside_others.ensures g is r at),
)

pub loop-at-preserved : goal.loop-at-preserved
loop-at-preserved c g is r at positive h below = elim (upto h c.loop-at.at below) [
  | inl earlier ↦ c.loop-at.invariant g is r at positive h earlier
  | inr same ↦ subst (λ k. IsAtWork g (alone_at k) c.args.index) (sym same)
      (why_none g (alone_at c.loop-at.at) c.args.index r _ (sym c.is_some.ensures ∙ c.if-is_some.false) positive
      (c.in_ok-idle_beside_others.ensures g is r at))
]

pub returns : goal.returns
returns c g is r at positive h below =
    c.loop-at.invariant g is r at positive h (omega (arith, below, c.loop-at-test.false))
