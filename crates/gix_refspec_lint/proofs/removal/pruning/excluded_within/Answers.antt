use Rattle.gix_refspec_lint.proofs.Common.{Contains, Reading, IsCompleted, take_all, arith, one_more_mapped, reading_of}
use Rattle.gix_refspec_lint.proofs.Common.{MatchBool-at_false, MatchBool-at_true}
use Rattle.gix_refspec_lint.proofs.lemmas.RemovalLemmas.{each_other, other_at}
use Rattle.gix_refspec_lint.specs.Private.Removals.{AreSameWithin, rest_of}
use Rattle.gix_refspec_lint.proofs.removal.pruning.excluded_within.Goals as goal

pub returns-then-branch : goal.returns-then-branch
returns-then-branch c r e p t are writes inside around =
    let (q, in_q, done) = other_at c.args.lists.now r are c.loop-other.other-index c.other-item.result
    c.loop-other-test.true c.other-item.is in
    MatchBool-at_true _ _ c.if-branch.true
    (c.in_ok-excluded_beside.ensures r e p t are writes inside around q in_q done)

pub loop-other-preserved : goal.loop-other-preserved
loop-other-preserved c r e p t are writes inside around =
    let lists = c.args.lists.now in
    one_more_mapped reading_of (λ x. (q : Reading) → Contains (rest_of lists) q → IsCompleted q x
    → AreSameWithin lists c.args.far.0.now c.args.far.1.now c.args.within.0.now c.args.within.1.now q)
    lists.others.now c.loop-other.other-index c.other-item.result
    (c.loop-other.invariant r e p t are writes inside around) c.loop-other-test.true c.other-item.is
    (λ q in_q done. MatchBool-at_false _ _ c.if-branch.false
    (c.in_ok-excluded_beside.ensures r e p t are writes inside around q in_q done))

pub returns : goal.returns
returns c r e p t are writes inside around =
    let lists = c.args.lists.now in
    each_other lists r are
    (AreSameWithin lists c.args.far.0.now c.args.far.1.now c.args.within.0.now c.args.within.1.now)
    (rw (take_all c.loop-other.other-index lists.others.now (omega arith)) at
    (c.loop-other.invariant r e p t are writes inside around))
