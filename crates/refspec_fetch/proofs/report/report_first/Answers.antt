-- The parts of the report follow each other.
use Rattle.std.proofs.Common.{List, map, subst}
use Rattle.gix_refspec_plan.specs.declared.Update.{Update}
use Rattle.gix_refspec_plan.specs.Views.Plan.{planned_of}
use Rattle.refspec_io.proofs.ShownLemmas.{both_ok}
use Rattle.refspec_fetch.specs.Conflicts.{AddsConflicts}
use Rattle.refspec_fetch.specs.Report.{report_of}
use Rattle.refspec_fetch.specs.Verdicts.{in_conflict_of}
use Rattle.refspec_fetch.proofs.report.report_first.Goals as goal

pub returns : goal.returns
returns c =
    let limit = c.args.style.now.limit in
    let texts = c.args.texts.now in
    let old = report_of c.args.report.now in
    let first = report_of c.report_missing.new.report in
    let second = report_of c.report_unwritten.new.report in
    let new = report_of c.report_conflicts.new.report in
    both_ok c.report_conflicts.result _ _ _ c.report_conflicts.ensures.form c.report_conflicts.ensures.reported
    (λ same conflicts. record {
      first = first;
      second = second;
      missing = c.in_ok-report_missing.ensures.reported;
      kept = c.in_ok-report_missing.ensures.form;
      unwritten = c.in_ok-report_unwritten.ensures;
      conflicts = subst (λ (l : List Update). AddsConflicts limit second.form texts (in_conflict_of (map planned_of l))
          second.messages new.messages second.results new.results) c.as_slice-updates.ensures.value conflicts;
      form = same;
    })
