-- The laws tell what a plan writes, and when it is carried out.
use Rattle.std.proofs.Common.{map, sym, ◌∙◌, rules}
use Rattle.std.proofs.lemmas.Bool.{false≢true}
use Rattle.std.proofs.lemmas.List.Elements.{filter_from_retain}
use Rattle.gix_refspec_plan.specs.Views.Plan.{planned_of}
use Rattle.gix_refspec_uses.specs.Planned.{is_written}
use Rattle.gix_refspec_uses.proofs.planner.plan_updates.Goals as goal

pub returns-then-not-is_carried_out-clause-hindered : goal.returns-then-not-is_carried_out-clause-hindered
returns-then-not-is_carried_out-clause-hindered c =
    let plan = c.in_ok-plan.plan in
    let exactly = c.carried_out_exactly.ensures (map planned_of plan.updates.items) plan.missing.items
    c.in_ok-plan.ensures in record {
      plan = c.in_ok-plan.ensures;
      hindered = λ whole. false≢true (sym c.if-not-is_carried_out.true ∙ c.is_carried_out.ensures.1
          (exactly.1 (whole.present, whole.free)));
    }

pub returns-clause-carried_out : goal.returns-clause-carried_out
returns-clause-carried_out c =
    let plan = c.in_ok-plan.plan in
    let planned = map planned_of plan.updates.items in
    let whole = (c.carried_out_exactly.ensures planned plan.missing.items c.in_ok-plan.ensures).0
    (c.is_carried_out.ensures.0 c.if-not-is_carried_out.false) in record {
      updates = plan.updates.items;
      missing = plan.missing.items;
      plan = c.in_ok-plan.ensures;
      exactly = filter_from_retain _ is_written (λ p u b q told. search rules) _ plan.updates.items
          c.retain.new.self.items c.retain.ensures.filtered;
      whole = record { present = whole.0; free = whole.1 };
      once = c.writes_once.ensures planned plan.missing.items c.in_ok-plan.ensures;
    }
