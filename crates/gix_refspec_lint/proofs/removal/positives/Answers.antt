use Rattle.gix_refspec_lint.proofs.Common.{take_all, arith}
use Rattle.gix_refspec_lint.proofs.lemmas.RemovalLemmas.{positive_pushed, positive_skipped}
use Rattle.gix_refspec_lint.proofs.removal.positives.Goals.{then-not-is_negative+in_ok-push, else-not-is_negative}
use Rattle.gix_refspec_lint.proofs.removal.positives.Goals as goal

pub loop-value-preserved : goal.loop-value-preserved
loop-value-preserved c =
    let old = c.loop-value.positives.items in
    elim c.if-not-is_negative.branch [
      | then-not-is_negative+in_ok-push w ↦ rw w.positives-is
          (positive_pushed c.args.values.now c.loop-value.value-index c.value-item.result old _ c.loop-value-test.true
          c.value-item.is c.loop-value.invariant w.if-not-is_negative.ensures w.in_ok-push.ensures.items)
      | else-not-is_negative w ↦
          rw w.positives-is (positive_skipped c.args.values.now c.loop-value.value-index c.value-item.result old
          c.loop-value-test.true c.value-item.is c.loop-value.invariant w.if-not-is_negative.ensures)
    ]

pub returns : goal.returns
returns c = rw (take_all c.loop-value.value-index c.args.values.now (omega arith)) at c.loop-value.invariant
