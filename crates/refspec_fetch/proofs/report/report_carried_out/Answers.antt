-- The parts of the report follow each other.
use Rattle.std.proofs.Common.{◌∙◌, Bool, List, ap, map, refl, subst, sym, ℕ}
use Rattle.std.specs.declared.vec.Vec.{Vec}
use Rattle.gix_refspec_plan.specs.declared.Update.{Update}
use Rattle.gix_refspec_plan.specs.Views.Plan.{planned_of}
use Rattle.refspec_io.proofs.ShownLemmas.{both_ok}
use Rattle.refspec_fetch.specs.Answer.{answer_of}
use Rattle.refspec_fetch.specs.Report.{AddsUpdates, AddsUpdatesIf, report_of}
use Rattle.refspec_fetch.specs.Stale.{AddsStale}
use Rattle.refspec_fetch.specs.Verdicts.{written_of}
use Rattle.refspec_fetch.proofs.report.report_carried_out.Goals as goal

pub returns-then-not-asks_updates : goal.returns-then-not-asks_updates
returns-then-not-asks_updates c =
    let same = report_of c.args.report.now in
    let none = subst (λ (b : Bool). AddsUpdatesIf b c.args.style.now c.args.texts.now
    (map planned_of c.args.answer.now.plan.updates.items) same same)
    (sym (sym c.asks_updates.ensures ∙ c.if-not-asks_updates.true)) refl in
    both_ok c.report_stale.result _ _ _ c.report_stale.ensures.form c.report_stale.ensures.reported
    (λ form stale. record { between = same; updates = none; stale = stale; form = form })

pub returns : goal.returns
returns c =
    let style = c.args.style.now in
    let texts = c.args.texts.now in
    let old = report_of c.args.report.now in
    let between = report_of c.report_updates.new.report in
    let reported =
    subst (λ (l : List Update). AddsUpdates style.long old.form texts (written_of (map planned_of l)) old.results
    between.results)
    c.as_slice.ensures.value c.in_ok-report_updates.ensures.reported in
    let updates =
    subst (λ (b : Bool). AddsUpdatesIf b style texts (map planned_of c.args.answer.now.plan.updates.items) old
    between)
    (sym (sym c.asks_updates.ensures ∙ c.if-not-asks_updates.false)) (c.in_ok-report_updates.ensures.form, reported) in
    both_ok c.sum_up.result _ _ _ c.sum_up.ensures.form c.sum_up.ensures.no_result (λ form none. record {
      between = between;
      updates = updates;
      stale = rw (sym none) at c.in_ok-report_stale.ensures.reported;
      form = form ∙ c.in_ok-report_stale.ensures.form;
    })
