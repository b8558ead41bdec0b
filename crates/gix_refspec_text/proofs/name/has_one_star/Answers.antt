use Rattle.gix_refspec_text.proofs.Common.{◌≡◌, ◌==◌, sym, ◌∙◌, rules, eq-eqb, eqb-true, count_by, bstr_bytes, star}
use Rattle.gix_refspec_text.proofs.lemmas.texts.LetterLemmas.{HasOneStar-count_by, count_by-HasOneStar}
use Rattle.gix_refspec_text.proofs.name.has_one_star.Goals as goal

pub returns : goal.returns
returns c =
    let x = bstr_bytes c.args.text in
    let counted : c.count.result ≡ count_by (λ b. b == star) x = search rules in (
      λ one. HasOneStar-count_by x (sym counted ∙ eqb-true _ _ one),
      λ one. eq-eqb _ _ (counted ∙ count_by-HasOneStar x one),
    )
