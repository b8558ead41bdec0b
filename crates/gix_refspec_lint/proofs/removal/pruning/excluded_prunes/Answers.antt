use Rattle.gix_refspec_lint.proofs.Common.{Contains, Reading, IsCompleted, take_all, arith, one_more_mapped, reading_of}
use Rattle.gix_refspec_lint.proofs.Common.{MatchBool-at_false, MatchBool-at_true}
use Rattle.gix_refspec_lint.proofs.lemmas.RemovalLemmas.{each_other, other_at}
use Rattle.gix_refspec_lint.specs.Private.Removals.{AreSameExcluded, rest_of}
use Rattle.gix_refspec_lint.proofs.removal.pruning.excluded_prunes.Goals as goal

pub returns-then-branch : goal.returns-then-branch
returns-then-branch c r are writes =
    let (e, inside, done) = other_at c.args.lists.now r are c.loop-negative.negative-index c.negative-item.result
    c.loop-negative-test.true c.negative-item.is in
    MatchBool-at_true _ _ c.if-branch.true (c.in_ok-excluded_by.ensures r e are writes inside done)

pub loop-negative-preserved : goal.loop-negative-preserved
loop-negative-preserved c r are writes =
    let lists = c.args.lists.now in
    one_more_mapped reading_of (λ x. (e : Reading) → Contains (rest_of lists) e → IsCompleted e x
    → AreSameExcluded lists c.args.near.0.now c.args.near.1.now c.args.far.0.now c.args.far.1.now e)
    lists.others.now c.loop-negative.negative-index
    c.negative-item.result (c.loop-negative.invariant r are writes) c.loop-negative-test.true c.negative-item.is
    (λ e inside done. MatchBool-at_false _ _ c.if-branch.false (c.in_ok-excluded_by.ensures r e are writes inside done))

pub returns : goal.returns
returns c r are writes =
    let lists = c.args.lists.now in
    each_other lists r are (AreSameExcluded lists c.args.near.0.now c.args.near.1.now c.args.far.0.now c.args.far.1.now)
    (rw (take_all c.loop-negative.negative-index lists.others.now (omega arith)) at
    (c.loop-negative.invariant r are writes))
