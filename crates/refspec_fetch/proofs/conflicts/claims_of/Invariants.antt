-- the claims of the updates at the indexes so far
use Rattle.std.proofs.Common.{◌≡◌, map, take}
use Rattle.gix_refspec_plan.specs.Views.Plan.{planned_of}
use Rattle.refspec_json.specs.Views.{claim_texts}
use Rattle.refspec_fetch.specs.Conflicts.{claims_of, those_at}
use Rattle.refspec_fetch.proofs.conflicts.claims_of.Given as goal

abbrev pub invariant-loop-index : goal.invariant-loop-index
invariant-loop-index l = map claim_texts l.claims.items ≡ claims_of l.texts
    (those_at (map planned_of l.updates) (take l.index-index l.indexes))
