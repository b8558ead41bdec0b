-- the rows so far were written
use Rattle.std.proofs.Common.{◌≡◌, map, take}
use Rattle.refspec_commands.specs.Rows.{AddsRows, shown_row}
use Rattle.refspec_commands.proofs.mappings.report_rows.Given as goal

abbrev pub invariant-loop-row : goal.invariant-loop-row
invariant-loop-row l = record {
  form : l.report.form ≡ l.fn.report.form;
  reported : AddsRows l.fn.report.form (map shown_row (take l.row-index l.rows)) l.fn.report.results.items
      l.report.results.items;
}
