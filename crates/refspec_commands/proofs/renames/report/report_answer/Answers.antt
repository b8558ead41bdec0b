-- Each is reported after the others.
use Rattle.std.proofs.Common.{refl, subst, ◌∙◌}
use Rattle.refspec_io.specs.declared.call.Form.{Form}
use Rattle.refspec_commands.specs.Each.{AddsOne}
use Rattle.refspec_commands.specs.Renames.{IsReported}
use Rattle.refspec_commands.proofs.EachLemmas.{AddsEach-all, AddsEach-next, AddsEach-start}
use Rattle.refspec_commands.proofs.renames.report.report_answer.Goals as goal

pub loop-value-init : goal.loop-value-init
loop-value-init c =
    let old = c.args.report.now in
    record { form = refl; reported = AddsEach-start (IsReported old.form) old.results.items }

pub loop-value-preserved : goal.loop-value-preserved
loop-value-preserved c =
    let f = c.args.report.now.form in
    let x = c.value-item.result in
    let mid = c.loop-value.report.results.items in
    let new = c.report_value.new.report.results.items in
    let one = subst (λ (g : Form). AddsOne (IsReported g) x mid new) c.loop-value.invariant.form
    c.in_ok-report_value.ensures.reported in
    record {
      form = c.in_ok-report_value.ensures.form ∙ c.loop-value.invariant.form;
      reported = AddsEach-next (IsReported f) c.args.values.now c.loop-value.value-index x
          c.args.report.now.results.items mid new c.loop-value-test.true c.value-item.is
          c.loop-value.invariant.reported one;
    }

pub returns : goal.returns
returns c = AddsEach-all (IsReported c.args.report.now.form) c.args.values.now c.loop-value.value-index
    c.args.report.now.results.items c.loop-value.report.results.items c.loop-value-test.false
    c.loop-value.invariant.reported
