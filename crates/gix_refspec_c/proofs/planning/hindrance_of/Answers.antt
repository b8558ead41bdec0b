-- Nothing is missing, and the plan isn't carried out.
use Rattle.std.proofs.Common.{map, sym, ◌∙◌, arith}
use Rattle.std.proofs.lemmas.Bool.{eqb-true, false≢true}
use Rattle.std.proofs.lemmas.List.{nil_from_length}
use Rattle.gix_refspec_plan.specs.Views.Plan.{planned_of}
use Rattle.gix_refspec_c.proofs.PlanningLemmas.{hindered_by_conflict}
use Rattle.gix_refspec_c.proofs.planning.hindrance_of.Goals as goal

pub returns-else-is_carried_out : goal.returns-else-is_carried_out
returns-else-is_carried_out c =
    let plan = c.args.plan.now in
    let none = nil_from_length plan.missing.items
    (let zero = eqb-true _ _ (sym c.is_empty.ensures ∙ c.if-not-is_empty.false) in omega
    (arith, zero, plan.missing.ok.0, plan.missing.ok.1)) in (
      none,
      hindered_by_conflict (map planned_of plan.updates.items) plan.missing.items none
          (λ carried. false≢true (c.if-is_carried_out.ensures.1 carried)),
    )
