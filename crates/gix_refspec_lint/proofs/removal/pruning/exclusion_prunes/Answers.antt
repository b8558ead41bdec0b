use Rattle.gix_refspec_lint.proofs.Common.{Contains, Reading, IsCompleted, sym, ◌∙◌, take_all, arith, one_more_mapped}
use Rattle.gix_refspec_lint.proofs.Common.{reading_of, MatchBool-at_false, MatchBool-at_true}
use Rattle.gix_refspec_lint.proofs.lemmas.{ExcludedLemmas.exclusion_same, RemovalLemmas.{each_other, other_at}}
use Rattle.gix_refspec_lint.specs.Private.Removals.{AreSameWithout, rest_of}
use Rattle.gix_refspec_lint.proofs.removal.pruning.exclusion_prunes.Goals as goal

pub returns-then-branch : goal.returns-then-branch
returns-then-branch c r are done =
    let (q, inside, also) = other_at c.args.lists.now r are c.loop-spec.spec-index c.spec-item.result
    c.loop-spec-test.true c.spec-item.is in
    MatchBool-at_true _ _ c.if-branch.true (c.in_ok-exclusion_matters.ensures r are done q inside also)

pub loop-spec-preserved : goal.loop-spec-preserved
loop-spec-preserved c r are done =
    let lists = c.args.lists.now in
    one_more_mapped reading_of (λ x. (q : Reading) → Contains (rest_of lists) q → IsCompleted q x
    → AreSameWithout lists r q) lists.others.now c.loop-spec.spec-index c.spec-item.result
    (c.loop-spec.invariant r are done) c.loop-spec-test.true c.spec-item.is
    (λ q inside also. MatchBool-at_false _ _ c.if-branch.false
    (c.in_ok-exclusion_matters.ensures r are done q inside also))

pub returns : goal.returns
returns c r are done =
    let lists = c.args.lists.now in
    exclusion_same lists r are (sym done.mode ∙ c.requires)
    (each_other lists r are (AreSameWithout lists r)
    (rw (take_all c.loop-spec.spec-index lists.others.now (omega arith)) at (c.loop-spec.invariant r are done)))
