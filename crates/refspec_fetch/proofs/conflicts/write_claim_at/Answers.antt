-- The line is that of the update at the index.
use Rattle.std.proofs.Common.{List, ap, map, option_map, subst, sym, ◌∙◌}
use Rattle.gix_refspec_plan.specs.Matching.Plan.{Planned}
use Rattle.gix_refspec_plan.specs.Views.Plan.{planned_of}
use Rattle.refspec_io.proofs.ShownLemmas.{on_ok}
use Rattle.refspec_fetch.specs.Conflicts.{WritesClaims}
use Rattle.refspec_fetch.proofs.ConflictLemmas.{WritesClaims-one, those-some}
use Rattle.refspec_fetch.proofs.conflicts.write_claim_at.Goals as goal

pub returns : goal.returns
returns c =
    let texts = c.args.texts.now in
    let ps = map planned_of c.args.updates.now in
    let p = planned_of c.in-Some.update.now in
    let at = those-some ps c.args.index p
    (sym c.update_at.ensures ∙ ap (option_map (λ u. planned_of u.now)) c.in-Some.is) in
    on_ok c.write_claim.result _ _ c.write_claim.ensures
    (λ claim. subst (λ (l : List Planned). WritesClaims texts l c.args.out.now.items c.write_claim.new.out.items)
    (sym at) (WritesClaims-one texts p c.in_ok-source.source.now c.text_of-text.result.now c.args.out.now.items
    c.write_claim.new.out.items c.in_ok-source.ensures c.text_of-text.ensures claim))
