use Rattle.gix_refspec_diff.proofs.Common.{MatchBool-at_false, MatchBool-at_true, arith, take_all}
use Rattle.gix_refspec_diff.proofs.lemmas.LackLemmas.{lacked_pushed, lacked_skipped}
use Rattle.gix_refspec_diff.proofs.missing.lacked_alone.Goals.{else-branch, then-branch+in_ok-push}
use Rattle.gix_refspec_diff.proofs.missing.lacked_alone.Goals as goal

pub loop-index-preserved : goal.loop-index-preserved
loop-index-preserved c = elim c.if-branch.branch [
  | then-branch+in_ok-push w ↦ rw w.lacked-is
      (lacked_pushed c.args.one.now c.args.other.now c.loop-index.index c.loop-index.lacked.items _
      c.loop-index-test.true (MatchBool-at_true _ _ w.if-branch.true c.in_ok-is_lacked_alone.ensures)
      c.loop-index.invariant w.in_ok-push.ensures.items)
  | else-branch w ↦ rw w.lacked-is
      (lacked_skipped c.args.one.now c.args.other.now c.loop-index.index c.loop-index.lacked.items
      c.loop-index-test.true (MatchBool-at_false _ _ w.if-branch.false c.in_ok-is_lacked_alone.ensures)
      c.loop-index.invariant)
]

pub returns : goal.returns
returns c = rw (take_all c.loop-index.index c.args.one.now (omega arith)) at c.loop-index.invariant
