-- Each index adds the line of its update.
use Rattle.std.proofs.Common.{map}
use Rattle.gix_refspec_plan.specs.Views.Plan.{planned_of}
use Rattle.refspec_fetch.proofs.ConflictLemmas.{WritesClaims-next, WritesClaims-start}
use Rattle.refspec_fetch.proofs.conflicts.write_claims.Goals as goal

pub loop-index-init : goal.loop-index-init
loop-index-init c = WritesClaims-start c.args.texts.now c.args.out.now.items

pub loop-index-preserved : goal.loop-index-preserved
loop-index-preserved c = WritesClaims-next c.args.texts.now (map planned_of c.args.updates.now) c.args.indexes.now
    c.loop-index.index-index 0 c.args.out.now.items c.loop-index.out.items c.write_claim_at.new.out.items
    c.loop-index-test.true c.loop-index.invariant c.in_ok-write_claim_at.ensures
