-- There is a function for each form.
use Rattle.std.proofs.Common.{subst, sym}
use Rattle.refspec_io.specs.declared.call.Form.{Form}
use Rattle.refspec_io.proofs.ShownLemmas.{on_ok}
use Rattle.refspec_commands.specs.Each.{AddsOne}
use Rattle.refspec_commands.specs.Locals.{IsPart}
use Rattle.refspec_commands.specs.LocalViews.{part_of}
use Rattle.refspec_commands.proofs.fates.role_report.report_part.Goals as goal

pub returns-in-Zeros-clause-reported : goal.returns-in-Zeros-clause-reported
returns-in-Zeros-clause-reported c = on_ok c.write_record.result _ _ c.write_record.ensures
    (subst (λ (f : Form). AddsOne (IsPart f c.args.name.now) (part_of c.args.part.now)
    c.args.report.now.results.items c.write_record.new.out.items) (sym c.in-Zeros.is))

pub returns-in-Lines-clause-reported : goal.returns-in-Lines-clause-reported
returns-in-Lines-clause-reported c = on_ok c.write_line.result _ _ c.write_line.ensures
    (subst (λ (f : Form). AddsOne (IsPart f c.args.name.now) (part_of c.args.part.now)
    c.args.report.now.results.items c.write_line.new.out.items) (sym c.in-Lines.is))

pub returns-in-Json-clause-reported : goal.returns-in-Json-clause-reported
returns-in-Json-clause-reported c = on_ok c.write_object.result _ _ c.write_object.ensures
    (subst (λ (f : Form). AddsOne (IsPart f c.args.name.now) (part_of c.args.part.now)
    c.args.report.now.results.items c.write_object.new.out.items) (sym c.in-Json.is))
