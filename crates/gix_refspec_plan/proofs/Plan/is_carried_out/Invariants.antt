use Rattle.gix_refspec_plan.proofs.Common.{◌≢◌, All, take, InConflict}

abbrev pub invariant-loop-update : Rattle.gix_refspec_plan.proofs.Plan.is_carried_out.Given.invariant-loop-update
invariant-loop-update l = All (λ u. u.verdict ≢ InConflict) (take l.update-index l.update-items)
