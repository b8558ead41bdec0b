use Rattle.gix_refspec_lint.proofs.Common.{inl, inr, map, option_map, sym, subst, arith, MatchBool-at_false, bstr_bytes}
use Rattle.gix_refspec_lint.proofs.Common.{upto, ref_of, start_of, Maps}
use Rattle.gix_refspec_lint.proofs.idle.first_of.Goals as goal

pub loop-at-init : goal.loop-at-init
loop-at-init c g is h from below = absurd (omega (arith, from, below))

pub loop-at-preserved : goal.loop-at-preserved
loop-at-preserved c g is h from below = elim (upto h c.loop-at.at below) [
  | inl before ↦ c.loop-at.invariant g is h from before
  | inr same ↦ subst (λ k. ¬ (Maps g (map ref_of c.args.items.now) k (start_of c.args.source.now)
      (option_map bstr_bytes c.args.destination))) (sym same)
      (MatchBool-at_false _ _ c.if-branch.false (c.in_ok-does_map.ensures g is))
]

pub returns : goal.returns
returns c g is h (from, below) = c.loop-at.invariant g is h from (omega (arith, below, c.loop-at-test.false))
