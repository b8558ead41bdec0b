-- the updates so far were reported, if they are in a directory conflict
use Rattle.std.proofs.Common.{◌≡◌, map, take}
use Rattle.gix_refspec_plan.specs.Views.Plan.{planned_of}
use Rattle.refspec_io.specs.Json.{AddsObjects}
use Rattle.refspec_io.specs.Shown.{Grows}
use Rattle.refspec_fetch.specs.LeftOut.{IsNestedOf}
use Rattle.refspec_fetch.specs.Verdicts.{nested_of}
use Rattle.refspec_fetch.proofs.nested.report_nested.Given as goal

abbrev pub invariant-loop-update : goal.invariant-loop-update
invariant-loop-update l = record {
  form : l.report.form ≡ l.fn.report.form;
  said : Grows l.fn.report.messages.items l.report.messages.items;
  reported : AddsObjects l.fn.report.form (IsNestedOf l.texts)
      (nested_of (map planned_of (take l.update-index l.updates))) l.fn.report.results.items l.report.results.items;
}
