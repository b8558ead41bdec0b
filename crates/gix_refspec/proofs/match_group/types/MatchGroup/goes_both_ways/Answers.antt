use Rattle.gix_refspec.proofs.Common.{one_more_mapped, GoesBothWays, reading_of, false≢true}
use Rattle.gix_refspec.proofs.lemmas.MadeLemmas.{none_of_all}
use Rattle.gix_refspec.proofs.match_group.types.MatchGroup.goes_both_ways.Goals as goal

pub returns-then-not-goes_both_ways : goal.returns-then-not-goes_both_ways
returns-then-not-goes_both_ways c =
    rw (← c.deref-spec-items.ensures.value)
    (none_of_all reading_of GoesBothWays c.deref-spec-items.result.now c.loop-spec.spec-index c.spec-item.result
    c.loop-spec-test.true c.spec-item.is (λ goes. false≢true (c.if-not-goes_both_ways.ensures.1 goes)))

pub loop-spec-preserved : goal.loop-spec-preserved
loop-spec-preserved c =
    rw (← c.deref-spec-items.ensures.value)
    (one_more_mapped reading_of GoesBothWays c.deref-spec-items.result.now c.loop-spec.spec-index c.spec-item.result
    (rw (← c.deref-spec-items.ensures.value) at c.loop-spec.invariant) c.loop-spec-test.true c.spec-item.is
    (c.goes_both_ways.ensures.0 c.if-not-goes_both_ways.false))
