-- the refs so far were reported
use Rattle.std.proofs.Common.{◌≡◌, map, take}
use Rattle.refspec_io.specs.Json.{AddsObjects}
use Rattle.refspec_fetch.specs.Stale.{IsKeptLine, kept_of}
use Rattle.refspec_fetch.proofs.stale.report_kept.Given as goal

abbrev pub invariant-loop-one : goal.invariant-loop-one
invariant-loop-one l = record {
  form : l.report.form ≡ l.fn.report.form;
  reported : AddsObjects l.fn.report.form IsKeptLine (map kept_of (take l.one-index l.kept)) l.fn.report.results.items
      l.report.results.items;
}
