-- After what each spec does comes why the ref isn't fetched.
use Rattle.std.proofs.Common.{subst}
use Rattle.refspec_io.specs.declared.call.Form.{Form}
use Rattle.refspec_io.specs.Shown.{KeepsResults}
use Rattle.refspec_io.proofs.ShownLemmas.{KeepsResults-same, on_ok}
use Rattle.refspec_commands.proofs.FateLemmas.{AddsAnswer-of}
use Rattle.refspec_commands.proofs.fates.report.report_answer.Goals as goal

pub returns-then-is_fetched : goal.returns-then-is_fetched
returns-then-is_fetched c =
    let f = c.args.report.now.form in
    let last = c.report_each.new.report.results.items in
    AddsAnswer-of f c.args.question.now.name.now c.args.answer.now c.as_slice.result.now c.as_slice-2.result.now
    c.args.report.now.results.items last last c.as_slice.ensures.value c.as_slice-2.ensures.value
    c.in_ok-report_each.ensures.reported (KeepsResults-same f last)

pub returns : goal.returns
returns c =
    let f = c.args.report.now.form in
    let last = c.report_each.new.report.results.items in
    let new = c.report_lack.new.report.results.items in
    on_ok c.report_lack.result _ _ c.report_lack.ensures (λ kept. AddsAnswer-of f c.args.question.now.name.now
    c.args.answer.now c.as_slice.result.now c.as_slice-2.result.now c.args.report.now.results.items last new
    c.as_slice.ensures.value c.as_slice-2.ensures.value c.in_ok-report_each.ensures.reported
    (subst (λ (g : Form). KeepsResults g last new) c.in_ok-report_each.ensures.form kept.kept))
