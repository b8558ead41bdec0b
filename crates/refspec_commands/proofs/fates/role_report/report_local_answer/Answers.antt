-- After what each spec has to do with the ref comes why it isn't written.
use Rattle.std.proofs.Common.{subst}
use Rattle.refspec_io.specs.declared.call.Form.{Form}
use Rattle.refspec_io.specs.Shown.{KeepsResults}
use Rattle.refspec_io.proofs.ShownLemmas.{KeepsResults-same, on_ok}
use Rattle.refspec_commands.proofs.LocalLemmas.{AddsLocalAnswer-of}
use Rattle.refspec_commands.proofs.fates.role_report.report_local_answer.Goals as goal

pub returns-then-is_written : goal.returns-then-is_written
returns-then-is_written c =
    let f = c.args.report.now.form in
    let last = c.report_parts.new.report.results.items in
    AddsLocalAnswer-of f c.args.question.now.name.now c.args.answer.now c.as_slice.result.now c.as_slice-2.result.now
    c.as_slice-3.result.now c.args.report.now.results.items last last c.as_slice.ensures.value
    c.as_slice-2.ensures.value c.as_slice-3.ensures.value c.in_ok-report_parts.ensures.reported
    (KeepsResults-same f last)

pub returns : goal.returns
returns c =
    let f = c.args.report.now.form in
    let last = c.report_parts.new.report.results.items in
    let new = c.write_lack.new.report.results.items in
    on_ok c.write_lack.result _ _ c.write_lack.ensures (λ kept. AddsLocalAnswer-of f c.args.question.now.name.now
    c.args.answer.now c.as_slice.result.now c.as_slice-2.result.now c.as_slice-3.result.now
    c.args.report.now.results.items last new c.as_slice.ensures.value c.as_slice-2.ensures.value
    c.as_slice-3.ensures.value c.in_ok-report_parts.ensures.reported
    (subst (λ (g : Form). KeepsResults g last new) c.in_ok-report_parts.ensures.form kept.kept))
