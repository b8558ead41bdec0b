use Rattle.gix_refspec.proofs.{Common.{one_more_mapped, reading_of, HasIdDestination}, lemmas.MadeLemmas.{none_of_all}}
use Rattle.gix_refspec.proofs.match_group.types.MatchGroup.asks_for_no_id.Goals as goal

pub returns-then-has_id_destination : goal.returns-then-has_id_destination
returns-then-has_id_destination c =
    rw (← c.deref-spec-items.ensures.value)
    (none_of_all reading_of (λ r. ¬ (HasIdDestination r)) c.deref-spec-items.result.now c.loop-spec.spec-index
    c.spec-item.result c.loop-spec-test.true c.spec-item.is
    (λ none. none (rw c.if-has_id_destination.true at c.has_id_destination.ensures)))

pub loop-spec-preserved : goal.loop-spec-preserved
loop-spec-preserved c =
    rw (← c.deref-spec-items.ensures.value)
    (one_more_mapped reading_of (λ r. ¬ (HasIdDestination r)) c.deref-spec-items.result.now c.loop-spec.spec-index
    c.spec-item.result (rw (← c.deref-spec-items.ensures.value) at c.loop-spec.invariant) c.loop-spec-test.true
    c.spec-item.is
    (rw c.if-has_id_destination.false at c.has_id_destination.ensures))
