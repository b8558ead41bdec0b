-- In JSON an object is appended to the results, else lines to the messages.
use Rattle.std.proofs.Common.{refl}
use Rattle.refspec_io.proofs.ShownLemmas.{on_ok}
use Rattle.refspec_commands.specs.WarnedViews.{said_of}
use Rattle.refspec_commands.proofs.WarnedLemmas.{AddsSaid-lines, AddsSaid-object}
use Rattle.refspec_commands.proofs.warnings.Warning.report.Goals as goal

pub returns-in-Json-clause-said : goal.returns-in-Json-clause-said
returns-in-Json-clause-said c = on_ok c.write_object.result _ _ c.write_object.ensures
    (AddsSaid-object c.args.report.now.form (said_of c.args.self.now) c.args.report.now _ c.in-Json.is refl)

pub returns-in-Lines : goal.returns-in-Lines
returns-in-Lines c = record {
  form = on_ok c.write_lines.result _ _ c.write_lines.ensures (λ wrote. refl);
  said = on_ok c.write_lines.result _ _ c.write_lines.ensures
      (AddsSaid-lines c.args.report.now.form (said_of c.args.self.now) c.args.report.now _ c.in-Lines.is refl);
}
