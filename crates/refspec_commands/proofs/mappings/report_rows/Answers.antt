-- Each row is after the others.
use Rattle.std.proofs.Common.{[], ap, refl, sym, subst}
use Rattle.refspec_io.specs.declared.call.Form.{Form}
use Rattle.refspec_commands.specs.Rows.{AddsRows, WritesRow, shown_row}
use Rattle.refspec_commands.proofs.RowsLemmas.{AddsRows-next, AddsRows-start}
use Rattle.refspec_commands.proofs.mappings.report_rows.Goals as goal

pub loop-row-init : goal.loop-row-init
loop-row-init c =
    let old = c.args.report.now.results.items in
    record {
      form = refl;
      reported = subst (AddsRows c.args.report.now.form [] old) (sym c.reserve.ensures.items)
          (AddsRows-start c.args.report.now.form old);
    }

pub loop-row-preserved : goal.loop-row-preserved
loop-row-preserved c =
    let f = c.args.report.now.form in
    let mid = c.loop-row.report.results.items in
    let new = c.write_row.new.out.items in
    let row = subst (λ (x : Form). WritesRow x (shown_row c.row-item.result) mid new) c.loop-row.invariant.form
    c.in_ok-write_row.ensures in
    record {
      form = c.loop-row.invariant.form;
      reported = AddsRows-next f c.args.rows.now c.loop-row.row-index c.row-item.result (shown_row c.row-item.result)
          c.args.report.now.results.items mid new c.loop-row-test.true
          (ap shown_row c.row-item.is) c.loop-row.invariant.reported row;
    }
