-- In JSON the report is an object; else the results stay as they were.
use Rattle.std.proofs.Common.{map, refl}
use Rattle.gix_refspec_plan.specs.Views.Plan.{planned_of}
use Rattle.refspec_io.proofs.JsonLemmas.{AddsObjects-one}
use Rattle.refspec_io.proofs.ShownLemmas.{on_ok}
use Rattle.refspec_fetch.specs.Conflicts.{IsConflict, conflict_line, contest_of}
use Rattle.refspec_fetch.proofs.conflicts.report_conflict.Goals as goal

pub returns-in-Json-clause-objects : goal.returns-in-Json-clause-objects
returns-in-Json-clause-objects c =
    let conflict = contest_of (map planned_of c.args.updates.now) c.args.contest.now in
    on_ok c.write_conflict_object.result _ _ c.write_conflict_object.ensures
    (AddsObjects-one c.args.report.now.form (IsConflict c.args.texts.now) conflict
    (conflict_line c.args.texts.now conflict) c.args.report.now.results.items c.write_conflict_object.new.out.items
    c.in-Json.is refl)
