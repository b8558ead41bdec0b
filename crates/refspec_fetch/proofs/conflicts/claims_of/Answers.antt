-- Each index adds the claim of its update.
use Rattle.std.proofs.Common.{ap, map}
use Rattle.gix_refspec_plan.specs.Views.Plan.{planned_of}
use Rattle.refspec_json.specs.Views.{claim_texts}
use Rattle.refspec_fetch.proofs.ConflictLemmas.{claims-next}
use Rattle.refspec_fetch.proofs.conflicts.claims_of.Goals as goal

pub loop-index-init : goal.loop-index-init
loop-index-init c = ap (map claim_texts) c.in_ok-claims.ensures.items

pub loop-index-preserved : goal.loop-index-preserved
loop-index-preserved c = claims-next c.args.texts.now (map planned_of c.args.updates.now) c.args.indexes.now
    c.loop-index.index-index 0 (map claim_texts c.loop-index.claims.items)
    (map claim_texts c.add_claim.new.claims.items) c.loop-index-test.true c.loop-index.invariant
    c.in_ok-add_claim.ensures
