-- There is a function for each form.
use Rattle.std.proofs.Common.{subst, sym}
use Rattle.refspec_io.specs.declared.call.Form.{Form}
use Rattle.refspec_io.proofs.ShownLemmas.{on_ok}
use Rattle.refspec_commands.specs.Each.{AddsOne}
use Rattle.refspec_commands.specs.Fates.{IsVerdict}
use Rattle.refspec_commands.specs.FateViews.{verdict_of}
use Rattle.refspec_commands.proofs.fates.report.report_verdict.Goals as goal

pub returns-in-Zeros-clause-reported : goal.returns-in-Zeros-clause-reported
returns-in-Zeros-clause-reported c = on_ok c.write_record.result _ _ c.write_record.ensures
    (subst (λ (f : Form). AddsOne (IsVerdict f c.args.names.now.question.now.name.now) (verdict_of c.args.verdict.now)
    c.args.report.now.results.items c.write_record.new.out.items) (sym c.in-Zeros.is))

pub returns-in_ok-sentence-in-Lines-clause-reported : goal.returns-in_ok-sentence-in-Lines-clause-reported
returns-in_ok-sentence-in-Lines-clause-reported c = on_ok c.write_line.result _ _ c.write_line.ensures
    (subst (λ (f : Form). AddsOne (IsVerdict f c.args.names.now.question.now.name.now) (verdict_of c.args.verdict.now)
    c.args.report.now.results.items c.write_line.new.out.items) (sym c.in-Lines.is))

pub returns-in_ok-sentence-in-Json-clause-reported : goal.returns-in_ok-sentence-in-Json-clause-reported
returns-in_ok-sentence-in-Json-clause-reported c = on_ok c.write_object.result _ _ c.write_object.ensures
    (subst (λ (f : Form). AddsOne (IsVerdict f c.args.names.now.question.now.name.now) (verdict_of c.args.verdict.now)
    c.args.report.now.results.items c.write_object.new.out.items) (sym c.in-Json.is))
