-- what there is so far was reported
use Rattle.std.proofs.Common.{◌≡◌, take}
use Rattle.refspec_commands.specs.Each.{AddsEach}
use Rattle.refspec_commands.specs.Prefetches.{IsReported}
use Rattle.refspec_commands.proofs.prefetches.report.report_answer.Given as goal

abbrev pub invariant-loop-one : goal.invariant-loop-one
invariant-loop-one l = record {
  form : l.report.form ≡ l.fn.report.form;
  reported : AddsEach (IsReported l.fn.report.form) (take l.one-index l.all) l.fn.report.results.items
      l.report.results.items;
}
