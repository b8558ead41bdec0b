-- Each is reported after the others.
use Rattle.std.proofs.Common.{refl, subst, ◌∙◌}
use Rattle.refspec_io.specs.declared.call.Form.{Form}
use Rattle.refspec_commands.specs.Each.{AddsOne}
use Rattle.refspec_commands.specs.Prefetches.{IsReported}
use Rattle.refspec_commands.proofs.EachLemmas.{AddsEach-all, AddsEach-next, AddsEach-start}
use Rattle.refspec_commands.proofs.prefetches.report.report_answer.Goals as goal

pub loop-one-init : goal.loop-one-init
loop-one-init c =
    let old = c.args.report.now in
    record { form = refl; reported = AddsEach-start (IsReported old.form) old.results.items }

pub loop-one-preserved : goal.loop-one-preserved
loop-one-preserved c =
    let f = c.args.report.now.form in
    let x = c.one-item.result in
    let mid = c.loop-one.report.results.items in
    let new = c.report_one.new.report.results.items in
    let one = subst (λ (g : Form). AddsOne (IsReported g) x mid new) c.loop-one.invariant.form
    c.in_ok-report_one.ensures.reported in
    record {
      form = c.in_ok-report_one.ensures.form ∙ c.loop-one.invariant.form;
      reported = AddsEach-next (IsReported f) c.args.all.now c.loop-one.one-index x c.args.report.now.results.items mid
          new c.loop-one-test.true c.one-item.is c.loop-one.invariant.reported one;
    }

pub returns : goal.returns
returns c = AddsEach-all (IsReported c.args.report.now.form) c.args.all.now c.loop-one.one-index
    c.args.report.now.results.items c.loop-one.report.results.items c.loop-one-test.false c.loop-one.invariant.reported
