-- With letters for its stars the text has a fault if a byte adds one, or if one is left at its end.
use Rattle.gix_refspec_text.proofs.Common.{Some, None, inr, refl}
use Rattle.gix_refspec_text.proofs.lemmas.texts.LetterLemmas.{scanned_whole, answer_with_letters}
use Rattle.gix_refspec_text.proofs.lemmas.lists.EmptyLemmas.{full_from_test}
use Rattle.gix_refspec_text.proofs.name.starred_name.Goals as goal

pub returns-in-Some : goal.returns-in-Some
returns-in-Some c =
    let whole = scanned_whole c.args.text.now c.in_ok-starred.starred c.in_ok-starred.ensures in
    let full = full_from_test c.args.text.now c.if-is_empty.ensures in (
      answer_with_letters c.args.text.now (Some c.in-Some.fault) full whole.0 c.in-Some.ensures,
      λ some. record { clean = c.in_ok-starred.ensures.0; here = inr (refl, c.in-Some.ensures) },
    )

pub returns-in-None : goal.returns-in-None
returns-in-None c =
    let whole = scanned_whole c.args.text.now c.in_ok-starred.starred c.in_ok-starred.ensures in (
      whole.1,
      answer_with_letters c.args.text.now None (full_from_test c.args.text.now c.if-is_empty.ensures) whole.0
          c.in-None.ensures,
    )
