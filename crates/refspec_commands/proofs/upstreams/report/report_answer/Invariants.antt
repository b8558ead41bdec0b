-- what was found so far was reported
use Rattle.std.proofs.Common.{◌≡◌, take}
use Rattle.refspec_commands.specs.Each.{AddsEach}
use Rattle.refspec_commands.specs.Upstreams.{IsReported}
use Rattle.refspec_commands.proofs.upstreams.report.report_answer.Given as goal

abbrev pub invariant-loop-found : goal.invariant-loop-found
invariant-loop-found l = record {
  form : l.report.form ≡ l.fn.report.form;
  reported : AddsEach (IsReported l.fn.report.form) (take l.found-index l.answer.found.items) l.fn.report.results.items
      l.report.results.items;
}
