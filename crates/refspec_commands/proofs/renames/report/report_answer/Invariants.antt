-- what there is so far was reported
use Rattle.std.proofs.Common.{◌≡◌, take}
use Rattle.refspec_commands.specs.Each.{AddsEach}
use Rattle.refspec_commands.specs.Renames.{IsReported}
use Rattle.refspec_commands.proofs.renames.report.report_answer.Given as goal

abbrev pub invariant-loop-value : goal.invariant-loop-value
invariant-loop-value l = record {
  form : l.report.form ≡ l.fn.report.form;
  reported : AddsEach (IsReported l.fn.report.form) (take l.value-index l.values) l.fn.report.results.items
      l.report.results.items;
}
