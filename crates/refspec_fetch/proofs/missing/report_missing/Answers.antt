-- Each spec is reported after the others.
use Rattle.std.proofs.Common.{◌∙◌, ◌∷◌, [], List, ap, refl, subst, sym, take_all}
use Rattle.gix_refspec_plan.specs.declared.Origin.{Origin}
use Rattle.refspec_fetch.specs.Missing.{AddsMissing}
use Rattle.refspec_fetch.specs.Origins.{text_of}
use Rattle.refspec_fetch.proofs.AnswerLemmas.{none_of}
use Rattle.refspec_fetch.proofs.MissingLemmas.{AddsMissing-next, AddsMissing-start}
use Rattle.refspec_fetch.proofs.missing.report_missing.Goals as goal

pub returns-then-is_empty-clause-reported : goal.returns-then-is_empty-clause-reported
returns-then-is_empty-clause-reported c =
    let old = c.args.report.now in
    subst (λ (os : List Origin). AddsMissing c.args.limit old.form c.args.texts.now os old.messages.items
    old.messages.items old.results.items old.results.items)
    (sym (none_of _ _ c.is_empty.ensures c.if-is_empty.true) ∙ c.as_slice-missing.ensures.value)
    (AddsMissing-start c.args.limit old.form c.args.texts.now old.messages.items old.results.items)

pub loop-origin-init : goal.loop-origin-init
loop-origin-init c =
    record {
      form = refl;
      reported = AddsMissing-start c.args.limit c.args.report.now.form c.args.texts.now
          c.args.report.now.messages.items c.args.report.now.results.items;
    }

pub loop-origin-preserved : goal.loop-origin-preserved
loop-origin-preserved c =
    let limit = c.args.limit in
    let texts = c.args.texts.now in
    let old = c.args.report.now in
    let mid = c.loop-origin.report in
    let new = c.report_one.new.report in
    let made = c.missing_by.ensures in
    let one = subst (λ (o : Origin). AddsMissing limit mid.form texts (o ∷ []) mid.messages.items new.messages.items
    mid.results.items new.results.items) made.origin
    (c.in_ok-report_one.ensures.reported texts (made.text ∙ ap (text_of texts) (sym made.origin))) in
    record {
      form = c.in_ok-report_one.ensures.form ∙ c.loop-origin.invariant.form;
      reported = AddsMissing-next limit old.form mid.form texts c.as_slice-missing.result.now c.loop-origin.origin-index
          _
          old.messages.items mid.messages.items new.messages.items old.results.items mid.results.items
          new.results.items c.loop-origin-test.true c.loop-origin.invariant.form c.loop-origin.invariant.reported one;
    }

pub returns-clause-reported : goal.returns-clause-reported
returns-clause-reported c =
    let old = c.args.report.now in
    let new = c.loop-origin.report in
    subst (λ (os : List Origin). AddsMissing c.args.limit old.form c.args.texts.now os old.messages.items
    new.messages.items old.results.items new.results.items)
    (take_all c.loop-origin.origin-index c.as_slice-missing.result.now c.loop-origin-test.false
    ∙ c.as_slice-missing.ensures.value) c.loop-origin.invariant.reported
