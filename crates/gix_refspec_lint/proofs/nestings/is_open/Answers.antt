-- No text is behind the only star.
use Rattle.gix_refspec_lint.proofs.Common.{◌≡◌, ◌++◌, ◌∷◌, [], length, option_map, sym, ap, ◌∙◌, eqb-true}
use Rattle.gix_refspec_lint.proofs.Common.{nil_from_length, bstr_bytes}
use Rattle.gix_refspec_text.specs.Texts.Bytes.{star}
use Rattle.gix_refspec_lint.proofs.nestings.is_open.Goals as goal

pub returns-in-Some-split_at_first_star : goal.returns-in-Some-split_at_first_star
returns-in-Some-split_at_first_star c is =
    let parts = c.in-Some-split_at_first_star in
    let before = parts.field-0-0.now in
    let end : parts.end.now ≡ [] =
    nil_from_length _ (eqb-true (length parts.end.now) 0 (sym c.is_empty.ensures ∙ is)) in
    let starred = sym c.as_bytes.ensures ∙ parts.ensures.0 ∙ ap (λ x. before ++ (star ∷ x)) end in (
      bstr_bytes c.in-Some.side,
      before,
      ap (option_map bstr_bytes) c.in-Some.is,
      record { starred = starred; first = parts.ensures.1; last = tt },
    )
