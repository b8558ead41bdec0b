-- Each kind of updates is reported after the others, if updates are asked for.
use Rattle.std.proofs.Common.{◌∙◌, Bool, List, map, refl, subst, sym}
use Rattle.gix_refspec_plan.specs.declared.Update.{Update}
use Rattle.gix_refspec_plan.specs.Views.Plan.{planned_of}
use Rattle.refspec_fetch.specs.Report.{AddsUnwritten, AddsUnwrittenIf, report_of}
use Rattle.refspec_fetch.proofs.report.report_unwritten.Goals as goal

pub returns-then-not-asks_updates : goal.returns-then-not-asks_updates
returns-then-not-asks_updates c =
    let same = report_of c.args.report.now in
    subst (λ (b : Bool). AddsUnwrittenIf b c.args.texts.now (map planned_of c.args.answer.now.plan.updates.items) same
    same)
    (sym (sym c.asks_updates.ensures ∙ c.if-not-asks_updates.true)) refl

pub returns : goal.returns
returns c =
    let texts = c.args.texts.now in
    let old = report_of c.args.report.now in
    let new = report_of c.report_nested.new.report in
    let one = c.in_ok-report_left_out.ensures in
    let two = c.in_ok-report_overruled.ensures in
    let three = c.in_ok-report_nested.ensures in
    let all : AddsUnwritten texts (map planned_of c.as_slice-updates.result.now) old new = record {
      first = report_of c.report_left_out.new.report;
      second = report_of c.report_overruled.new.report;
      left_out = record { form = one.form; said = one.said; objects = one.reported };
      overruled = record { form = two.form; said = two.said; objects = two.reported };
      nested = record { form = three.form; said = three.said; objects = three.reported };
    } in
    subst (λ (b : Bool). AddsUnwrittenIf b texts (map planned_of c.args.answer.now.plan.updates.items) old new)
    (sym (sym c.asks_updates.ensures ∙ c.if-not-asks_updates.false))
    (subst (λ (l : List Update). AddsUnwritten texts (map planned_of l) old new) c.as_slice-updates.ensures.value all)
