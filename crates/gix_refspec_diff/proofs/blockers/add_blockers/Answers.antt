use Rattle.gix_refspec_diff.proofs.Common.{arith, bstring_bytes, map, start_of, take_all}
use Rattle.gix_refspec_diff.proofs.lemmas.BlockerLemmas.{added_next, none_added}
use Rattle.gix_refspec_diff.proofs.blockers.add_blockers.Goals as goal

pub loop-spec-init : goal.loop-spec-init
loop-spec-init c = none_added (start_of c.args.source.now) (map bstring_bytes c.args.away.now) _

pub loop-spec-preserved : goal.loop-spec-preserved
loop-spec-preserved c =
    added_next c.args.specs.now c.loop-spec.spec-index c.spec-item.result (start_of c.args.source.now)
    (map bstring_bytes c.args.away.now) _ _ _ _ c.loop-spec-test.true c.spec-item.is c.in_ok-before.ensures
    c.in_ok-add_new.ensures c.loop-spec.invariant

pub returns : goal.returns
returns c = rw (take_all c.loop-spec.spec-index c.args.specs.now (omega arith)) at c.loop-spec.invariant
