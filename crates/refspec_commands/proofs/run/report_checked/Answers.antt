-- Except for `canon` and `explain`, a command reports its results, or that some text is refused.
use Rattle.std.proofs.Common.{inl, map}
use Rattle.gix_refspec.specs.Views.Spec.{reading_of}
use Rattle.refspec_io.proofs.ShownLemmas.{if_ok}
use Rattle.refspec_commands.proofs.OutputLemmas.{ReportsChecked-found}
use Rattle.refspec_commands.proofs.run.report_checked.Goals as goal

pub returns-in-Some : goal.returns-in-Some
returns-in-Some c = if_ok c.report_found.result _ _ c.report_found.ensures (λ refused reported. ReportsChecked-found
    c.args.task.now.call.now.command c.args.task.now c.args.all.now c.args.report.now c.report_found.new.report refused
    c.in_default.not-Canon c.in_default.not-Explain
    (inl (map reading_of c.in-Some.specs.items, rw c.in-Some.is at c.in_ok-all_good-in_default.ensures, reported)))
