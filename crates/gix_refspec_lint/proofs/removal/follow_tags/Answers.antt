use Rattle.gix_refspec_lint.proofs.Common.{of_element, some_at, take_all, arith, reading_of, one_more_mapped}
use Rattle.gix_refspec_lint.proofs.lemmas.IndexLemmas.{reading_at}
use Rattle.gix_refspec_lint.specs.Matching.Removal.{HasDestination}
use Rattle.gix_refspec_lint.proofs.removal.follow_tags.Goals as goal

pub returns-then-has_destination : goal.returns-then-has_destination
returns-then-has_destination c =
    some_at HasDestination _ c.loop-value.value-index _
    (reading_at c.args.values.now c.loop-value.value-index c.value-item.result c.loop-value-test.true)
    (rw c.value-item.is at c.if-has_destination.ensures)

pub loop-value-preserved : goal.loop-value-preserved
loop-value-preserved c =
    one_more_mapped reading_of (λ r. ¬ (HasDestination r)) c.args.values.now c.loop-value.value-index
    c.value-item.result c.loop-value.invariant c.loop-value-test.true c.value-item.is c.if-has_destination.ensures

pub returns : goal.returns
returns c = λ (k, r, below, at, some). of_element (λ r. ¬ (HasDestination r)) _ r
    (rw (take_all c.loop-value.value-index c.args.values.now (omega arith)) at c.loop-value.invariant)
    (k, below, at) some
