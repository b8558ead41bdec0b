-- The configured specs and what is merged, or `HEAD`.
use Rattle.gix_refspec_plan.proofs.Common.{[], map, inl, inr, refl, sym, ap, ◌∙◌, subst, append-nil, map-append, IsName}
use Rattle.gix_refspec_plan.proofs.Common.{fetched_alone, mapped_of, Default, AreConfigured, asked_of, reading_of}
use Rattle.gix_refspec_plan.proofs.Common.{bstr_bytes}
use Rattle.gix_refspec_plan.proofs.lemmas.plan.SpecLemmas.{none_mapped, one_more, some_mapped}
use Rattle.gix_refspec_text.proofs.lemmas.texts.HeadLemmas.{IsName-head}
use Rattle.gix_refspec_plan.proofs.specs.configured_or_head.Goals as goal

pub fetch_of-requires-clause-name : goal.fetch_of-requires-clause-name
fetch_of-requires-clause-name c = subst IsName (sym c.new.ensures) IsName-head

pub returns : goal.returns
returns c =
    let wish = c.args.wish.now in
    let asked = c.in_ok-asked.asked.items in
    let those = c.in_ok-asked.ensures in
    elim c.if-not-is_empty.branch [
      | goal.then-not-is_empty+in_ok-names+in_ok-configured+in_ok-merges+in_ok-append w ↦ rw w.asked-is
          (AreConfigured.by_configuration (map asked_of asked) (map asked_of w.in_ok-merges.merges.items)
          (inr (some_mapped bstr_bytes wish.merges.now _ c.is_empty.ensures w.if-not-is_empty.true)) those
          (inr (
            map asked_of asked,
            map mapped_of w.in_ok-configured.configured.items,
            those,
            rw w.as_slice-then-not-is_empty.ensures.value at w.in_ok-configured.ensures,
            rw w.as_slice-then-not-is_empty-3.ensures.value at w.in_ok-merges.ensures,
          ))
          (ap (map asked_of) w.in_ok-append.ensures.items ∙ map-append asked_of asked w.in_ok-merges.merges.items))
      | goal.else-not-is_empty+then-is_empty+in_ok-push w ↦ rw w.asked-is
          (let none = none_mapped reading_of wish.configured.now _ w.is_empty-else-not-is_empty.ensures
          w.if-is_empty.true in
          AreConfigured.by_default none
          (none_mapped bstr_bytes wish.merges.now _ c.is_empty.ensures w.if-not-is_empty.false)
          (rw (rw none at those) at (one_more asked _ _ _ Default (w.fetch_of.ensures ∙ ap fetched_alone w.new.ensures)
          refl w.in_ok-push.ensures.items)))
      | goal.else-not-is_empty+else-is_empty w ↦ rw w.asked-is
          (AreConfigured.by_configuration (map asked_of asked) []
          (inl (some_mapped reading_of wish.configured.now _ w.is_empty-else-not-is_empty.ensures
          w.if-is_empty.false)) those
          (inl (none_mapped bstr_bytes wish.merges.now _ c.is_empty.ensures w.if-not-is_empty.false, refl))
          (sym (append-nil (map asked_of asked))))
    ]
