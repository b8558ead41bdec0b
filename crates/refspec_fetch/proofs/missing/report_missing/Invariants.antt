-- the specs so far were reported
use Rattle.std.proofs.Common.{◌≡◌, take}
use Rattle.refspec_fetch.specs.Missing.{AddsMissing}
use Rattle.refspec_fetch.proofs.missing.report_missing.Given as goal

abbrev pub invariant-loop-origin : goal.invariant-loop-origin
invariant-loop-origin l = record {
  form : l.report.form ≡ l.fn.report.form;
  reported : AddsMissing l.limit l.fn.report.form l.texts (take l.origin-index l.missing) l.fn.report.messages.items
      l.report.messages.items l.fn.report.results.items l.report.results.items;
}
