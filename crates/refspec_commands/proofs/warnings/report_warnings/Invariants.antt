-- the warnings so far were reported
use Rattle.std.proofs.Common.{◌≡◌, map, take}
use Rattle.refspec_commands.specs.Warned.{AddsSaid}
use Rattle.refspec_commands.specs.WarnedViews.{said_of}
use Rattle.refspec_commands.proofs.warnings.report_warnings.Given as goal

abbrev pub invariant-loop-warning : goal.invariant-loop-warning
invariant-loop-warning l = record {
  form : l.report.form ≡ l.fn.report.form;
  said : AddsSaid l.fn.report.form (map said_of (take l.warning-index l.warnings)) l.fn.report l.report;
}
