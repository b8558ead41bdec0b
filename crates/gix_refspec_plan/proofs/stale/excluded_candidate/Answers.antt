-- The candidates are tried in order.
use Rattle.gix_refspec_plan.proofs.Common.{◌∙◌, ap, map, take_all, All-more, bstring_bytes, ExcludeName}
use Rattle.gix_refspec_plan.proofs.lemmas.stale.SourceLemmas.{none_contained, text_contained}
use Rattle.gix_refspec_plan.proofs.stale.excluded_candidate.Goals as goal

pub returns-in-Some : goal.returns-in-Some
returns-in-Some c =
    let name = text_contained c.deref-candidate-items.result.now c.loop-candidate.candidate-index
    c.candidate-item.result _ (ap (map bstring_bytes) c.deref-candidate-items.ensures.value
    ∙ c.in_ok-candidates.ensures) c.loop-candidate-test.true c.candidate-item.is in
    (bstring_bytes c.candidate-item.result, name, rw (c.as_bytes.ensures, c.as_bstr.ensures) at c.in-Some.ensures)

pub loop-candidate-preserved : goal.loop-candidate-preserved
loop-candidate-preserved c = All-more (λ b. ¬ (ExcludeName c.args.exclusions.now (bstring_bytes b))) _ _ _
    c.loop-candidate-test.true c.loop-candidate.invariant
    (rw (c.as_bytes.ensures, c.as_bstr.ensures, c.candidate-item.is) at c.in_default.ensures)

pub returns : goal.returns
returns c =
    none_contained (ExcludeName c.args.exclusions.now) c.deref-candidate-items.result.now _
    (ap (map bstring_bytes) c.deref-candidate-items.ensures.value ∙ c.in_ok-candidates.ensures)
    (rw (take_all _ _ c.loop-candidate-test.false) at c.loop-candidate.invariant)
