use Rattle.gix_refspec_lint.proofs.Common.{ℕ, List, ◌++◌, drop, map, take_all, arith, of_element, mapped_there}
use Rattle.gix_refspec_lint.proofs.Common.{AreOverlaps, MatchBool-at_false}
use Rattle.gix_refspec_lint.proofs.lemmas.RemovalLemmas.{one_more_overlap}
use Rattle.gix_refspec_lint.specs.Private.Removals.{IsSameAlone, all_of, rest_of}
use Rattle.gix_refspec_lint.proofs.removal.pruning.differs_overlapping.Goals as goal

pub loop-shared-preserved : goal.loop-shared-preserved
loop-shared-preserved c =
    one_more_overlap (IsSameAlone (all_of c.args.lists.now) (rest_of c.args.lists.now)) c.args.common.now.prefix.now
    c.args.common.now.suffix.now
    c.deref-shared-items.result.now c.loop-shared.shared-index c.loop-shared.invariant c.loop-shared-test.true
    (rw (c.as_bytes.ensures, c.as_bstr.ensures, c.in_ok-local.ensures) at
    (MatchBool-at_false _ _ c.if-branch.false c.in_ok-differs_alone.ensures))

pub returns : goal.returns
returns c k most overlap =
    let list = c.deref-shared-items.result.now in
    let made : ℕ → List ℕ = λ k. c.args.common.now.prefix.now ++ drop k c.args.common.now.suffix.now in
    let are : AreOverlaps c.args.common.now.prefix.now c.args.common.now.suffix.now c.args.common.now.most list =
    rw c.deref-shared-items.ensures.value c.in_ok-overlaps.ensures in
    of_element (IsSameAlone (all_of c.args.lists.now) (rest_of c.args.lists.now)) (map made list) (made k)
    (rw (take_all c.loop-shared.shared-index list (omega arith)) at c.loop-shared.invariant)
    (mapped_there made list k (are.all k most overlap))
