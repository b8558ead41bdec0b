-- the claims are those of the updates so far
use Rattle.std.proofs.Common.{map}
use Rattle.gix_refspec_plan.specs.Views.Plan.{planned_of}
use Rattle.refspec_fetch.proofs.ClaimLemmas.{AreClaimsUpto}
use Rattle.refspec_fetch.proofs.conflicts.claims_in_order.Given as goal

abbrev pub invariant-loop-index : goal.invariant-loop-index
invariant-loop-index l = AreClaimsUpto (map planned_of l.updates) l.index l.claims.items
