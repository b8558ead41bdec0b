use Rattle.gix_refspec_diff.proofs.Common.{arith, map, one_more_mapped, reading_of, start_of, take_all}
use Rattle.gix_refspec_diff.specs.Private.Searches.{NoneByExclusion, words_in}
use Rattle.gix_refspec_diff.proofs.pairs.fetched_where_excluded.Goals as goal

pub returns-in-Some : goal.returns-in-Some
returns-in-Some c g h are = rw c.in-Some.is at (c.in_ok-example.ensures g h are)

pub loop-negative-preserved : goal.loop-negative-preserved
loop-negative-preserved c g h are =
    one_more_mapped reading_of
    (NoneByExclusion g h c.args.index (words_in c.args.lists.now) c.args.texts.0.now c.args.texts.1.now)
    c.args.lists.now.exclusions.now c.loop-negative.negative-index c.negative-item.result
    (c.loop-negative.invariant g h are) c.loop-negative-test.true c.negative-item.is (
      map start_of c.in_ok-sources.sources.items,
      c.in_ok-sources.ensures,
      rw c.in_default.is at (c.in_ok-example.ensures g h are),
    )

pub returns : goal.returns
returns c g h are =
    rw (take_all c.loop-negative.negative-index c.args.lists.now.exclusions.now (omega arith)) at
    (c.loop-negative.invariant g h are)
