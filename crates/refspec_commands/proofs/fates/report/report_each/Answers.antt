-- Each effect is reported after the others.
use Rattle.std.proofs.Common.{ℕ, List, [], map, refl, subst, sym, take_all, unwrap_or, ◌∙◌}
use Rattle.std.specs.List.{slice_get}
use Rattle.bstr.specs.Owned.{bstring_bytes}
use Rattle.gix_refspec_why.specs.declared.Effect.{Effect}
use Rattle.refspec_io.specs.declared.call.Form.{Form}
use Rattle.refspec_commands.specs.Each.{AddsEach, AddsOne}
use Rattle.refspec_commands.specs.Fates.{IsVerdict, Verdict, verdicts_from}
use Rattle.refspec_commands.proofs.EachLemmas.{AddsEach-start}
use Rattle.refspec_commands.proofs.FateLemmas.{AddsEach-push, verdict_with, verdicts-more}
use Rattle.refspec_commands.proofs.fates.report.report_each.Goals as goal

pub loop-index-init : goal.loop-index-init
loop-index-init c =
    let old = c.args.report.now in
    record {
      form = refl;
      reported = AddsEach-start (IsVerdict old.form c.args.names.now.question.now.name.now) old.results.items;
    }

pub loop-index-preserved : goal.loop-index-preserved
loop-index-preserved c =
    let f = c.args.report.now.form in
    let name = c.args.names.now.question.now.name.now in
    let texts = map bstring_bytes c.args.names.now.texts.now in
    let all = c.args.effects.now in
    let i = c.loop-index.index in
    let e = c.index-effects-index.result in
    let mid = c.loop-index.report.results.items in
    let new = c.report_verdict.new.report.results.items in
    let one = subst (λ (g : Form). AddsOne (IsVerdict g name) (verdict_with c.text_at-text.result.now e) mid new)
    c.loop-index.invariant.form c.in_ok-report_verdict.ensures.reported in
    let here = subst (λ (x : Effect). AddsOne (IsVerdict f name) (verdict_with (unwrap_or (slice_get texts i) []) x) mid
    new) c.index-effects-index.is
    (subst (λ (t : List ℕ). AddsOne (IsVerdict f name) (verdict_with t e) mid new) c.text_at-text.ensures one) in
    record {
      form = c.in_ok-report_verdict.ensures.form ∙ c.loop-index.invariant.form;
      reported = subst (λ (l : List Verdict). AddsEach (IsVerdict f name) l c.args.report.now.results.items new)
          (sym (verdicts-more texts all i e c.loop-index-test.true))
          (AddsEach-push (IsVerdict f name) _ _ c.args.report.now.results.items mid new
          c.loop-index.invariant.reported here);
    }

pub returns-clause-reported : goal.returns-clause-reported
returns-clause-reported c =
    let f = c.args.report.now.form in
    let name = c.args.names.now.question.now.name.now in
    let texts = map bstring_bytes c.args.names.now.texts.now in
    subst (λ (l : List Effect). AddsEach (IsVerdict f name) (verdicts_from 0 texts l) c.args.report.now.results.items
    c.loop-index.report.results.items) (take_all c.loop-index.index c.args.effects.now c.loop-index-test.false)
    c.loop-index.invariant.reported
