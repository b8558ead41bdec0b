use Rattle.gix_refspec_match.proofs.Common.{None, refl, ◌≡◌, sym, ◌∙◌, arith, append-nil, ◌<◌, length, get_or}
use Rattle.gix_refspec_match.proofs.Common.{false≢true, get_or_default}
use Rattle.gix_refspec_match.proofs.lemmas.duplicates.FlagLemmas.{some_element}
use Rattle.gix_refspec_match.proofs.lemmas.lists.ListsLemmas.{kept_more, remains_more}
use Rattle.gix_refspec_match.proofs.duplicates.drop_flagged.Goals as goal

pub loop-place-preserved : goal.loop-place-preserved
loop-place-preserved g c =
    let now = c.loop-place.elements.items in
    let place = c.loop-place.place in
    let inside : place < length now = omega arith in
    let m = get_or now place (some_element now place inside) in
    let here : m ≡ get_or now place m = get_or_default now place _ m inside in
    elim c.if-not-is_flagged.branch [
      | goal.then-not-is_flagged w ↦ rw (w.elements-is, w.kept-is)
          (remains_more _ _ now w.swap.new.self.items c.loop-place.kept place m inside c.loop-place.invariant
          here w.swap.ensures.by_index
          (refl, λ flagged. false≢true (sym w.if-not-is_flagged.true ∙ c.is_flagged.ensures.1 flagged)))
      | goal.else-not-is_flagged w ↦ rw (w.elements-is, w.kept-is)
          (kept_more _ _ now now c.loop-place.kept c.loop-place.kept place m None inside c.loop-place.invariant
          here (λ y is. is.1 (c.is_flagged.ensures.0 w.if-not-is_flagged.false))
          (omega (arith, c.loop-place.invariant.0)) refl (sym (append-nil _)) refl)
    ]
