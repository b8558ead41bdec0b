use Rattle.gix_refspec_match.proofs.Common.{refl, sym, ◌∙◌, subst, ap, false≢true, All-from_recursion, hit_at}
use Rattle.gix_refspec_match.proofs.Common.{ExcludeName, filled_side, First}
use Rattle.gix_refspec_match.proofs.lemmas.keep.ExclusionLemmas.{told_by_some}
use Rattle.gix_refspec_match.proofs.lemmas.keep.EngineLemmas.{excluded_next, included_next}
use Rattle.gix_refspec_match.proofs.map_forward.Goals as goal

pub loop-hit-preserved-then-is_some : goal.loop-hit-preserved-then-is_some
loop-hit-preserved-then-is_some c =
    let sound = rw (← c.deref-hit-items.ensures.value) at c.requires in
    excluded_next First _ _ _ _ _ _ (All-from_recursion _ _ sound _ (hit_at 0 0) c.loop-hit-test.true).matcher _ _ _ _
    sound c.loop-hit-test.true c.loop-hit.invariant
    refl (subst (ExcludeName c.args.exclusions.now) c.as_bytes.ensures
    ((told_by_some c.args.exclusions.now c.as_bytes.result.now c.spec_of.result c.is_some.result c.spec_of.ensures
    c.is_some.ensures).0 c.if-is_some.true))

pub loop-hit-preserved : goal.loop-hit-preserved
loop-hit-preserved c =
    included_next First _ _ _ _ _ _ _ _ _ _ _ (rw (← c.deref-hit-items.ensures.value) at c.requires)
    c.loop-hit-test.true c.loop-hit.invariant
    (c.in_ok-filled.ensures.value ∙ ap (filled_side _) c.word_in.ensures) _ _ c.in_ok-push.ensures.items refl
    (λ taken. false≢true
    (sym c.if-is_some.false
    ∙ (told_by_some c.args.exclusions.now c.as_bytes.result.now c.spec_of.result c.is_some.result c.spec_of.ensures
    c.is_some.ensures).1 (rw c.as_bytes.ensures taken)))
