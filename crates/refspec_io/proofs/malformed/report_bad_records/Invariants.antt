-- the records so far were reported
use Rattle.std.proofs.Common.{◌≡◌, take}
use Rattle.refspec_io.specs.Json.{AddsObjects}
use Rattle.refspec_io.specs.Malformed.{IsBadLine}
use Rattle.refspec_io.proofs.malformed.report_bad_records.Given as goal

abbrev pub invariant-loop-record : goal.invariant-loop-record
invariant-loop-record l = record {
  form : l.report.form ≡ l.fn.report.form;
  reported : AddsObjects l.fn.report.form (IsBadLine l.fn.input) (take l.record-index l.bad) l.fn.report.results.items
      l.report.results.items;
}
