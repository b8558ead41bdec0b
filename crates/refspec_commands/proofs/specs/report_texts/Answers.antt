-- Each text is reported after the others.
use Rattle.std.proofs.Common.{◌<◌, ◌∙◌, length, refl, arith}
use Rattle.refspec_io.proofs.MessageLemmas.{ReportsRefusals-all, ReportsRefusals-next}
use Rattle.refspec_commands.proofs.CanonLemmas.{AddsShown-all, AddsShown-next, AddsShown-start}
use Rattle.refspec_commands.proofs.specs.report_texts.Goals as goal

pub loop-checked-init : goal.loop-checked-init
loop-checked-init c = record {
  form = refl;
  reported = AddsShown-start c.args.kind c.args.report.now.form c.args.report.now.results.items;
  refused = refl;
}

pub loop-checked-preserved : goal.loop-checked-preserved
loop-checked-preserved c =
    let below : c.loop-checked.checked-index < length c.args.all.now = omega arith in
    let f = c.args.report.now.form in
    let mid = c.loop-checked.report in
    let new = c.report_text.new.report in
    record {
      form = c.in_ok-report_text.ensures.form ∙ c.loop-checked.invariant.form;
      reported = AddsShown-next c.args.kind f mid.form c.args.all.now c.loop-checked.checked-index c.checked-item.result
          c.args.report.now.results.items mid.results.items new.results.items below c.loop-checked.invariant.form
          c.checked-item.is c.loop-checked.invariant.reported c.in_ok-report_text.ensures.reported;
      refused = ReportsRefusals-next f mid.form c.args.all.now c.loop-checked.checked-index c.checked-item.result
          c.args.report.now.messages.items mid.messages.items new.messages.items below c.loop-checked.invariant.form
          c.checked-item.is c.loop-checked.invariant.refused c.in_ok-report_text.ensures.refused;
    }

pub returns : goal.returns
returns c = record {
  form = c.loop-checked.invariant.form;
  reported = AddsShown-all c.args.kind c.args.report.now.form c.args.all.now c.loop-checked.checked-index
      c.args.report.now.results.items c.loop-checked.report.results.items c.loop-checked-test.false
      c.loop-checked.invariant.reported;
  refused = ReportsRefusals-all c.args.report.now.form c.args.all.now c.loop-checked.checked-index
      c.args.report.now.messages.items c.loop-checked.report.messages.items c.loop-checked-test.false
      c.loop-checked.invariant.refused;
}
