use Rattle.gix_refspec_why.proofs.Common.{◌+◌, sym, subst, map, take, bstr_bytes, reading_of, ref_of, AreAttempts}
use Rattle.gix_refspec_why.proofs.Common.{IsAttempt}
use Rattle.gix_refspec_plan.proofs.lemmas.plan.NameLemmas.{zip_step}
use Rattle.gix_refspec_why.proofs.attempts.attempts_of.Goals as goal

pub loop-spec-preserved : goal.loop-spec-preserved
loop-spec-preserved c =
    let specs = c.args.specs.now in
    let i = c.loop-spec.spec-index in
    let refs = map ref_of c.args.items.now in
    let n = bstr_bytes c.args.name in
    subst (AreAttempts (map reading_of (take (i + 1) specs)) refs n) (sym c.in_ok-push.ensures.items)
    (zip_step (λ r a. IsAttempt refs r n a) reading_of specs i c.spec-item.result c.loop-spec.attempts.items
    c.in_ok-attempt_by.field-0 c.loop-spec-test.true c.spec-item.is c.loop-spec.invariant
    (c.in_ok-attempt_by.ensures refs c.in_ok-firsts.ensures c.requires))
