-- Each is reported after the others.
use Rattle.std.proofs.Common.{◌≡◌, ◌<◌, ◌≤◌, List, get_or, length, refl, subst, ◌∙◌}
use Rattle.refspec_io.specs.declared.call.Form.{Form}
use Rattle.refspec_commands.specs.declared.upstreams.answer.Found.{Found}
use Rattle.refspec_commands.specs.Each.{AddsOne}
use Rattle.refspec_commands.specs.Upstreams.{IsReported}
use Rattle.refspec_commands.proofs.EachLemmas.{AddsEach-all, AddsEach-next, AddsEach-start}
use Rattle.refspec_commands.proofs.upstreams.report.report_answer.Goals as goal

pub loop-found-init : goal.loop-found-init
loop-found-init c =
    let old = c.args.report.now in
    record { form = refl; reported = AddsEach-start (IsReported old.form) old.results.items }

pub loop-found-preserved : goal.loop-found-preserved
loop-found-preserved c =
    let f = c.args.report.now.form in
    let all = c.args.answer.now.found.items in
    let i = c.loop-found.found-index in
    let x = c.found-item.result in
    let same = c.deref-found-items.ensures.value in
    let mid = c.loop-found.report.results.items in
    let new = c.report_found.new.report.results.items in
    let here = subst (λ (l : List Found). x ≡ get_or l i x) same c.found-item.is in
    let below = subst (λ (l : List Found). i < length l) same c.loop-found-test.true in
    let one = subst (λ (g : Form). AddsOne (IsReported g) x mid new) c.loop-found.invariant.form
    c.in_ok-report_found.ensures.reported in
    record {
      form = c.in_ok-report_found.ensures.form ∙ c.loop-found.invariant.form;
      reported = AddsEach-next (IsReported f) all i x c.args.report.now.results.items mid new below here
          c.loop-found.invariant.reported one;
    }

pub returns : goal.returns
returns c =
    let all = c.args.answer.now.found.items in
    let i = c.loop-found.found-index in
    let past = subst (λ (l : List Found). length l ≤ i) c.deref-found-items.ensures.value c.loop-found-test.false in
    AddsEach-all (IsReported c.args.report.now.form) all i c.args.report.now.results.items
    c.loop-found.report.results.items past c.loop-found.invariant.reported
