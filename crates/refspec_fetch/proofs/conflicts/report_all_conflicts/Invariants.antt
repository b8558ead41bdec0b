-- the conflicts so far were reported
use Rattle.std.proofs.Common.{◌≡◌, map, take}
use Rattle.gix_refspec_plan.specs.Views.Plan.{planned_of}
use Rattle.refspec_io.specs.Json.{AddsObjects}
use Rattle.refspec_fetch.specs.Conflicts.{AddsEachConflict, IsConflict, contest_of}
use Rattle.refspec_fetch.proofs.conflicts.report_all_conflicts.Given as goal

abbrev pub invariant-loop-contest : goal.invariant-loop-contest
invariant-loop-contest l = record {
  form : l.report.form ≡ l.fn.report.form;
  objects : AddsObjects l.fn.report.form (IsConflict l.texts)
      (map (contest_of (map planned_of l.updates)) (take l.contest-index l.contests)) l.fn.report.results.items
      l.report.results.items;
  reported : AddsEachConflict l.fn.report.form l.texts
      (map (contest_of (map planned_of l.updates)) (take l.contest-index l.contests)) l.fn.report.messages.items
      l.report.messages.items;
}
