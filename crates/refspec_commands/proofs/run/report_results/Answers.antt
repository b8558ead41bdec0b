-- `check` and `rename` are asked of the texts, and other commands of the checked texts.
use Rattle.std.proofs.Common.{List, map, subst}
use Rattle.refspec_io.proofs.ShownLemmas.{if_ok}
use Rattle.refspec_io.specs.declared.checked.Checked.{Checked}
use Rattle.refspec_io.specs.Texts.{given_of}
use Rattle.refspec_commands.specs.Output.{ReportsChecked}
use Rattle.refspec_commands.proofs.OutputLemmas.{Shows-check, Shows-checked, Shows-rename}
use Rattle.refspec_commands.proofs.run.report_results.Goals as goal

pub returns-in-Check : goal.returns-in-Check
returns-in-Check c empty = if_ok c.report_check.result _ _ (c.report_check.ensures empty) (λ failed. Shows-check
    c.args.task.now.call.now.command c.args.task.now (map given_of c.args.texts.now) c.report_check.new.report failed
    c.in-Check.is)

pub returns-in-Rename : goal.returns-in-Rename
returns-in-Rename c empty = if_ok c.report_renames.result _ _ c.report_renames.ensures (λ left. Shows-rename
    c.args.task.now.call.now.command c.args.task.now (map given_of c.args.texts.now) c.args.report.now
    c.report_renames.new.report left c.in-Rename.is empty)

pub returns-in_ok-all-in_default : goal.returns-in_ok-all-in_default
returns-in_ok-all-in_default c empty =
    let task = c.args.task.now in
    let old = c.args.report.now in
    let new = c.report_checked.new.report in
    if_ok c.report_checked.result _ _ c.report_checked.ensures
    (λ refused reported. Shows-checked task.call.now.command task
    c.args.texts.now c.in_ok-all-in_default.all.items old new refused c.in_default.not-Check
    c.in_default.not-Rename c.in_ok-all-in_default.ensures
    empty (subst (λ (l : List Checked). ReportsChecked task.call.now.command task l old new refused)
    c.as_slice.ensures.value reported))
