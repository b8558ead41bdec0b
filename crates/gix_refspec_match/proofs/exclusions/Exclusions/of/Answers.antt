use Rattle.gix_refspec_match.proofs.Common.{arith, take, take_all, length-map, length-take-le, map_next, reading_of}
use Rattle.gix_refspec_match.proofs.lemmas.keep.ExclusionLemmas.{exclusions_at_more, exclusions_more}
use Rattle.gix_refspec_match.proofs.exclusions.Exclusions.of.Goals as goal

pub loop-index-preserved : goal.loop-index-preserved
loop-index-preserved c =
    let specs = c.args.specs.now in
    let i = c.loop-index.index in
    rw (map_next reading_of specs i c.index-specs-index.result c.loop-index-test.true c.index-specs-index.is) (
      (λ n. exclusions_more _ _ n _ _ (c.loop-index.invariant.0 n) (c.in_ok-add.ensures.names n)),
      exclusions_at_more _ _ i c.loop-index.exclusions c.add.new.self
          (omega (
            arith,
            length-map (take i specs) reading_of,
            length-take-le i specs (omega (arith, c.loop-index-test.true)),
          )) c.loop-index.invariant.1
          c.in_ok-add.ensures.indexes,
    )

pub returns : goal.returns
returns c = let both = rw (take_all c.loop-index.index c.args.specs.now (omega arith)) at c.loop-index.invariant in
    record { names = both.0; indexes = both.1 }
