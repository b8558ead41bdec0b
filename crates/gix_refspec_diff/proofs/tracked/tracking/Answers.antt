use Rattle.gix_refspec_diff.proofs.Common.{arith, take_all}
use Rattle.gix_refspec_diff.proofs.lemmas.TrackedLemmas.{none_tracking, tracking_pushed, tracking_skipped}
use Rattle.gix_refspec_diff.proofs.tracked.tracking.Goals.{else-has_destination, then-has_destination+in_ok-push}
use Rattle.gix_refspec_diff.proofs.tracked.tracking.Goals as goal

pub loop-value-init : goal.loop-value-init
loop-value-init c = rw c.new-kept.ensures.items none_tracking

pub loop-value-preserved : goal.loop-value-preserved
loop-value-preserved c =
    let old = c.loop-value.kept.items in
    elim c.if-has_destination.branch [
      | then-has_destination+in_ok-push w ↦ rw w.kept-is
          (tracking_pushed c.args.values.now c.loop-value.value-index c.value-item.result old c.loop-value-test.true
          c.value-item.is c.loop-value.invariant _ w.if-has_destination.ensures w.in_ok-push.ensures.items)
      | else-has_destination w ↦ rw w.kept-is
          (tracking_skipped c.args.values.now c.loop-value.value-index c.value-item.result old c.loop-value-test.true
          c.value-item.is c.loop-value.invariant w.if-has_destination.ensures)
    ]

pub returns : goal.returns
returns c = rw (take_all c.loop-value.value-index c.args.values.now (omega arith)) at c.loop-value.invariant
