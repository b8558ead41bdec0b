-- What is written and deleted is reported behind the rest, if the plan is carried out.
use Rattle.std.proofs.Common.{◌∙◌, inl, inr, refl, subst, sym}
use Rattle.std.proofs.lemmas.Bool.{false≢true}
use Rattle.gix_refspec_plan.specs.Matching.Plan.{Wish}
use Rattle.refspec_io.proofs.ShownLemmas.{on_ok}
use Rattle.refspec_fetch.specs.Origins.{AreTextsOf}
use Rattle.refspec_fetch.specs.Report.{report_of}
use Rattle.refspec_fetch.proofs.report.report_answer.Goals as goal

pub returns-then-not-is_carried_out : goal.returns-then-not-is_carried_out
returns-then-not-is_carried_out c = record {
  texts = c.in_ok-texts.texts;
  between = report_of c.report_first.new.report;
  of_specs = subst (λ (w : Wish). AreTextsOf w c.in_ok-texts.texts) c.wish-wish.ensures c.in_ok-texts.ensures;
  first = c.in_ok-report_first.ensures;
  rest = inl (
    (λ carried. false≢true (sym c.if-not-is_carried_out.true ∙ c.is_carried_out.ensures.1 carried)),
    refl,
  );
}

pub returns : goal.returns
returns c = on_ok c.report_carried_out.result _ _ c.report_carried_out.ensures (λ rest. record {
  texts = c.in_ok-texts.texts;
  between = report_of c.report_first.new.report;
  of_specs = subst (λ (w : Wish). AreTextsOf w c.in_ok-texts.texts) c.wish-wish.ensures c.in_ok-texts.ensures;
  first = c.in_ok-report_first.ensures;
  rest = inr (c.is_carried_out.ensures.0 c.if-not-is_carried_out.false, rest);
})
