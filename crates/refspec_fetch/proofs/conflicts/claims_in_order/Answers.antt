-- An update in conflict makes a claim, and another one doesn't.
use Rattle.std.proofs.Common.{Vec, Global, ◌+◌, map, sym, subst, arith}
use Rattle.std.proofs.lemmas.List.{length-map}
use Rattle.gix_refspec_plan.specs.Views.Plan.{planned_of}
use Rattle.refspec_fetch.specs.declared.conflicts.Claimed.{Claimed}
use Rattle.refspec_fetch.proofs.ClaimLemmas.{AreClaimsUpto, claims_sorted}
use Rattle.refspec_fetch.proofs.ContestLemmas.{claim_more, claim_same}
use Rattle.refspec_fetch.proofs.conflicts.claims_in_order.Goals.{in-InConflict+in_ok-push, in_default}
use Rattle.refspec_fetch.proofs.conflicts.claims_in_order.Goals as goal

pub loop-index-preserved : goal.loop-index-preserved
loop-index-preserved c =
    let us = c.args.updates.now in
    let i = c.loop-index.index in
    let x = c.index-updates-index.result in
    let stays : Vec Claimed Global → Type 0 = λ claims. AreClaimsUpto (map planned_of us) (i + 1) claims.items in
    elim c.match-update.branch [
      | in-InConflict+in_ok-push w ↦ subst stays (sym w.claims-is)
          (claim_more us x c.loop-index.claims.items w.push.new.self.items
          (record { destination = w.destination_or-destination.result; index = i }) c.loop-index-test.true
          c.index-updates-index.is w.in-InConflict.is w.destination_or-destination.ensures w.in_ok-push.ensures.items
          c.loop-index.invariant)
      | in_default w ↦ subst stays (sym w.claims-is)
          (claim_same us x i c.loop-index.claims.items c.loop-index-test.true c.index-updates-index.is
          w.in_default.not-InConflict c.loop-index.invariant)
    ]

pub returns : goal.returns
returns c = claims_sorted (map planned_of c.args.updates.now) c.loop-index.index c.loop-index.claims.items
    c.sort_unstable.new.self.items (omega (arith, length-map c.args.updates.now planned_of)) c.loop-index.invariant
    c.sort_unstable.ensures.permutation c.sort_unstable.ensures.sorted
