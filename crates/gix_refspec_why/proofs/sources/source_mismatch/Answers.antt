use Rattle.gix_refspec_why.proofs.Common.{None, Some, inl, refl, sym, ap, ◌∙◌, option_map, bstr_bytes, accepted_few}
use Rattle.gix_refspec_why.proofs.Common.{reading_of, pattern, full_name, object, partial, by_kind}
use Rattle.gix_refspec_why.proofs.lemmas.SourceLemmas.{unmapped_unmatched}
use Rattle.gix_refspec_text.specs.Texts.ObjectId.{id_bytes}
use Rattle.gix_refspec_why.proofs.sources.source_mismatch.Goals as goal

pub kind_of-requires : goal.kind_of-requires
kind_of-requires c = rw c.as_bytes.ensures
    (accepted_few _ _ c.args.spec.now.accepted
    (inl (sym c.source.ensures ∙ ap (option_map bstr_bytes) c.in-Some.is)))

pub pattern_mismatch-requires : goal.pattern_mismatch-requires
pattern_mismatch-requires c word fits =
    unmapped_unmatched c.args.name.now (reading_of c.args.spec.now) c.as_bytes.result.now
    (pattern c.in-Pattern.before.now c.in-Pattern.after.now) c.args.spec.now.accepted c.requires.positive
    (sym c.source.ensures ∙ ap (option_map bstr_bytes) c.in-Some.is ∙ ap Some (sym c.as_bytes.ensures))
    c.in-Pattern.ensures
    c.requires.unmapped (Some word) fits

pub returns-in-Pattern : goal.returns-in-Pattern
returns-in-Pattern c refs =
    by_kind c.requires.positive c.as_bytes.result.now (pattern c.in-Pattern.before.now c.in-Pattern.after.now)
    (sym c.source.ensures ∙ ap (option_map bstr_bytes) c.in-Some.is ∙ ap Some (sym c.as_bytes.ensures))
    c.in-Pattern.ensures c.pattern_mismatch.ensures

pub returns-in-FullName : goal.returns-in-FullName
returns-in-FullName c refs =
    let source = sym c.source.ensures ∙ ap (option_map bstr_bytes) c.in-Some.is ∙ ap Some (sym c.as_bytes.ensures) in
    by_kind c.requires.positive c.as_bytes.result.now (full_name c.in-FullName.field-0.now) source
    c.in-FullName.ensures (
      refl,
      λ same. unmapped_unmatched c.args.name.now (reading_of c.args.spec.now) c.as_bytes.result.now
          (full_name c.in-FullName.field-0.now) c.args.spec.now.accepted c.requires.positive source
          c.in-FullName.ensures
          c.requires.unmapped None (refl, same),
    )

pub returns-in-Object : goal.returns-in-Object
returns-in-Object c refs =
    by_kind c.requires.positive c.as_bytes.result.now (object (id_bytes c.in-Object.field-0))
    (sym c.source.ensures ∙ ap (option_map bstr_bytes) c.in-Some.is ∙ ap Some (sym c.as_bytes.ensures))
    c.in-Object.ensures refl

pub returns-in-Partial : goal.returns-in-Partial
returns-in-Partial c refs =
    let source = sym c.source.ensures ∙ ap (option_map bstr_bytes) c.in-Some.is ∙ ap Some (sym c.as_bytes.ensures) in
    by_kind c.requires.positive c.as_bytes.result.now (partial c.in-Partial.field-0.now) source c.in-Partial.ensures
    (λ one. unmapped_unmatched c.args.name.now (reading_of c.args.spec.now) c.as_bytes.result.now
    (partial c.in-Partial.field-0.now) c.args.spec.now.accepted c.requires.positive source c.in-Partial.ensures
    c.requires.unmapped None (refl, one))
