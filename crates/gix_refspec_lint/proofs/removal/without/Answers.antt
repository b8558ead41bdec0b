use Rattle.gix_refspec_lint.proofs.Common.{take_all, arith, sym}
use Rattle.gix_refspec_lint.proofs.lemmas.RemovalLemmas.{without_pushed, without_skipped}
use Rattle.gix_refspec_lint.proofs.removal.without.Goals.{then-at-index+in_ok-push, else-at-index}
use Rattle.gix_refspec_lint.proofs.removal.without.Goals as goal

pub loop-at-preserved : goal.loop-at-preserved
loop-at-preserved c = elim c.if-at-index.branch [
  | then-at-index+in_ok-push w ↦ rw w.rest-is
      (without_pushed c.args.values.now c.loop-at.at c.args.index c.index-values-at.result c.loop-at.rest.items _
      c.loop-at-test.true c.index-values-at.is (λ same. w.if-at-index.true (sym same)) c.loop-at.invariant
      w.in_ok-push.ensures.items)
  | else-at-index w ↦
      rw w.rest-is (without_skipped c.args.values.now c.loop-at.at c.args.index c.index-values-at.result
      c.loop-at.rest.items c.loop-at-test.true c.index-values-at.is (sym w.if-at-index.false) c.loop-at.invariant)
]

pub returns : goal.returns
returns c = rw (take_all c.loop-at.at c.args.values.now (omega arith)) at c.loop-at.invariant
