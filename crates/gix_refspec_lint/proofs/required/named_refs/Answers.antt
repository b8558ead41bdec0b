-- By the kind of the side, of which an accepted spec has one.
use Rattle.gix_refspec_lint.proofs.Common.{inl, inr, refl, sym, ap, ◌∙◌, option_map, bstr_bytes, pattern, full_name}
use Rattle.gix_refspec_lint.proofs.Common.{partial, reading_of, accepted_few}
use Rattle.gix_refspec_lint.proofs.lemmas.RequiredLemmas.{named_are, never_missing}
use Rattle.gix_refspec_lint.proofs.required.named_refs.Goals as goal

pub kind_of-requires : goal.kind_of-requires
kind_of-requires c =
    rw c.as_bytes.ensures (accepted_few _ _ c.args.spec.now.accepted
    (inl (sym c.source.ensures ∙ ap (option_map bstr_bytes) c.in-Some.is)))

pub returns-in-Pattern : goal.returns-in-Pattern
returns-in-Pattern c =
    never_missing (reading_of c.args.spec.now) (bstr_bytes c.in-Some.side)
    (pattern c.in-Pattern.before.now c.in-Pattern.after.now)
    (sym c.source.ensures ∙ ap (option_map bstr_bytes) c.in-Some.is)
    (rw c.as_bytes.ensures at c.in-Pattern.ensures) (λ m same. cc) (λ m same. cc)

pub returns-in_ok-valid_names-in-FullName : goal.returns-in_ok-valid_names-in-FullName
returns-in_ok-valid_names-in-FullName c =
    let of = rw c.as_bytes.ensures at c.in-FullName.ensures in
    named_are (reading_of c.args.spec.now) (bstr_bytes c.in-Some.side)
    (full_name c.in-FullName.field-0.now) _ _ c.if-is_negative.ensures
    (sym c.source.ensures ∙ ap (option_map bstr_bytes) c.in-Some.is)
    of (inl (refl, of.1, of.2)) c.in_ok-one_name-in-FullName.ensures c.in_ok-valid_names-in-FullName.ensures

pub returns-in_ok-valid_names-in-Partial : goal.returns-in_ok-valid_names-in-Partial
returns-in_ok-valid_names-in-Partial c =
    let of = rw c.as_bytes.ensures at c.in-Partial.ensures in
    named_are (reading_of c.args.spec.now) (bstr_bytes c.in-Some.side)
    (partial c.in-Partial.name.now) _ _ c.if-is_negative.ensures
    (sym c.source.ensures ∙ ap (option_map bstr_bytes) c.in-Some.is)
    of (inr (refl, of.1, of.2, of.3)) c.in_ok-candidates-in-Partial.ensures c.in_ok-valid_names-in-Partial.ensures
