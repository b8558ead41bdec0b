use Rattle.gix_refspec_diff.proofs.Common.{arith, one_more_mapped, start_of, take_all}
use Rattle.gix_refspec_diff.specs.Private.Searches.{AreNoneFrom}
use Rattle.gix_refspec_diff.proofs.pairs.example_among.Goals as goal

pub returns-in-Some : goal.returns-in-Some
returns-in-Some c g h are = rw c.in-Some.is at (c.in_ok-example.ensures g h are)

pub loop-source-preserved : goal.loop-source-preserved
loop-source-preserved c g h are =
    one_more_mapped start_of (AreNoneFrom g h c.args.index) c.deref-source-items.result.now
    c.loop-source.source-index c.source-item.result (c.loop-source.invariant g h are) c.loop-source-test.true
    c.source-item.is (rw c.in_default.is at (c.in_ok-example.ensures g h are))

pub returns : goal.returns
returns c g h are =
    rw (
      take_all c.loop-source.source-index c.deref-source-items.result.now (omega arith),
      c.deref-source-items.ensures.value,
    ) at (c.loop-source.invariant g h are)
