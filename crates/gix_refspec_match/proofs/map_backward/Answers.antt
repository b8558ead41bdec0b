use Rattle.gix_refspec_match.proofs.Common.{refl, sym, ◌∙◌, subst, ap, option_map, false≢true, ExcludeName, filled_side}
use Rattle.gix_refspec_match.proofs.Common.{name_bytes, All}
use Rattle.gix_refspec_match.proofs.lemmas.keep.ExclusionLemmas.{told_by_some}
use Rattle.gix_refspec_match.proofs.lemmas.keep.EngineLemmas.{excluded_next, included_next}
use Rattle.gix_refspec_match.proofs.map_backward.Goals as goal

pub loop-hit-preserved-then-is_some : goal.loop-hit-preserved-then-is_some
loop-hit-preserved-then-is_some c =
    excluded_next All _ _ _ _ _ _ _ _ _ _ _ (rw (← c.deref-hit-items.ensures.value) at c.requires.sound)
    c.loop-hit-test.true c.loop-hit.invariant
    (ap (option_map name_bytes) (sym c.in-Some.is) ∙ c.in_ok-source.ensures.value
    ∙ ap (filled_side _) c.word_in.ensures)
    (subst (ExcludeName c.args.exclusions.now) (c.as_bytes.ensures ∙ c.as_bstr.ensures)
    ((told_by_some c.args.exclusions.now c.as_bytes.result.now c.spec_of.result c.is_some.result c.spec_of.ensures
    c.is_some.ensures).0 c.if-is_some.true))

pub loop-hit-preserved : goal.loop-hit-preserved
loop-hit-preserved c =
    included_next All _ _ _ _ _ _ _ _ _ _ _ (rw (← c.deref-hit-items.ensures.value) at c.requires.sound)
    c.loop-hit-test.true c.loop-hit.invariant
    (ap (option_map name_bytes) (sym c.in-Some.is) ∙ c.in_ok-source.ensures.value
    ∙ ap (filled_side _) c.word_in.ensures) _ _ c.in_ok-push.ensures.items refl
    (λ taken. false≢true
    (sym c.if-is_some.false
    ∙ (told_by_some c.args.exclusions.now c.as_bytes.result.now c.spec_of.result c.is_some.result c.spec_of.ensures
    c.is_some.ensures).1 (rw (c.as_bytes.ensures, c.as_bstr.ensures) taken)))
