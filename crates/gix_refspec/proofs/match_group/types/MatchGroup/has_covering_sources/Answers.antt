use Rattle.gix_refspec.proofs.{Common.{HasCoveringSource, reading_of, false≢true}, lemmas.MadeLemmas.{none_of_all}}

pub returns-then-not-has_covering_source :
    Rattle.gix_refspec.proofs.match_group.types.MatchGroup.has_covering_sources.Goals.returns-then-not-has_covering_source
returns-then-not-has_covering_source c =
    rw (← c.deref-spec-items.ensures.value)
    (none_of_all reading_of HasCoveringSource c.deref-spec-items.result.now c.loop-spec.spec-index c.spec-item.result
    c.loop-spec-test.true c.spec-item.is (λ has. false≢true (c.if-not-has_covering_source.ensures.1 has)))
