-- The rows are between the messages on specs and those on refs.
use Rattle.std.proofs.Common.{List, map, subst, ◌∙◌}
use Rattle.refspec_io.specs.declared.call.Form.{Form}
use Rattle.refspec_io.specs.Shown.{KeepsResults}
use Rattle.refspec_io.proofs.ShownLemmas.{KeepsReport-next, KeepsReport-same}
use Rattle.refspec_commands.specs.declared.mappings.Row.{Row}
use Rattle.refspec_commands.specs.declared.tracking.answer.Tracked.{Tracked}
use Rattle.refspec_commands.specs.Answer.{AreRows}
use Rattle.refspec_commands.specs.Rows.{AddsRows, shown_row}
use Rattle.refspec_commands.proofs.tracking.report.report_answer.Goals as goal

pub loop-looked-init : goal.loop-looked-init
loop-looked-init c = KeepsReport-same c.report_rows.new.report

pub loop-looked-preserved : goal.loop-looked-preserved
loop-looked-preserved c = KeepsReport-next c.report_rows.new.report c.loop-looked.report c.report_ref.new.report
    c.loop-looked.invariant c.in_ok-report_ref.ensures

pub returns : goal.returns
returns c =
    let f = c.args.report.now.form in
    let rows = c.in_ok-rows.rows.items in
    let first = c.report_left_out.new.report in
    let last = c.report_rows.new.report in
    let same = c.in_ok-report_left_out.ensures.form in
    let are = subst (λ (ts : List Tracked). AreRows c.args.order ts rows) c.as_slice-2.ensures.value
    c.in_ok-rows.ensures in
    let reported = subst (λ (x : Form). AddsRows x (map shown_row rows) first.results.items last.results.items) same
    (subst (λ (l : List Row). AddsRows first.form (map shown_row l) first.results.items last.results.items)
    c.as_slice-3.ensures.value c.in_ok-report_rows.ensures.reported) in
    let after = subst (λ (x : Form). KeepsResults x last.results.items c.loop-looked.report.results.items)
    (c.in_ok-report_rows.ensures.form ∙ same) c.loop-looked.invariant.kept in (
      rows,
      are,
      record {
        first = first.results.items;
        last = last.results.items;
        before = c.in_ok-report_left_out.ensures.kept;
        reported = reported;
        after = after;
      },
    )
