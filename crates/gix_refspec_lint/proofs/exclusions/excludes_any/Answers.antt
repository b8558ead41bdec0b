use Rattle.gix_refspec_lint.proofs.Common.{of_element, some_at, take_all, arith, MatchBool-at_false, MatchBool-at_true}
use Rattle.gix_refspec_lint.proofs.Common.{reading_of, one_more_mapped, ExcludesSome}
use Rattle.gix_refspec_lint.proofs.lemmas.IndexLemmas.{reading_at}
use Rattle.gix_refspec_lint.proofs.exclusions.excludes_any.Goals as goal

pub returns-then-branch : goal.returns-then-branch
returns-then-branch c g is =
    some_at (ExcludesSome (reading_of c.args.negative.now)) _ c.loop-spec.spec-index _
    (reading_at c.args.group.now.specs.now c.loop-spec.spec-index c.spec-item.result c.loop-spec-test.true)
    (rw c.spec-item.is at (MatchBool-at_true _ _ c.if-branch.true (c.in_ok-excludes_of.ensures g is)))

pub loop-spec-preserved : goal.loop-spec-preserved
loop-spec-preserved c g is =
    one_more_mapped reading_of (λ r. ¬ (ExcludesSome (reading_of c.args.negative.now) r)) c.args.group.now.specs.now
    c.loop-spec.spec-index c.spec-item.result (c.loop-spec.invariant g is) c.loop-spec-test.true c.spec-item.is
    (MatchBool-at_false _ _ c.if-branch.false (c.in_ok-excludes_of.ensures g is))

pub returns : goal.returns
returns c g is =
    λ (k, r, below, at, some). of_element (λ r. ¬ (ExcludesSome (reading_of c.args.negative.now) r)) _ r
    (rw (take_all c.loop-spec.spec-index c.args.group.now.specs.now (omega arith)) at (c.loop-spec.invariant g is))
    (k, below, at) some
