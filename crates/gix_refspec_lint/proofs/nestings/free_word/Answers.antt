use Rattle.gix_refspec_lint.proofs.{Common.{ap, ◌∙◌, slice_get}, lemmas.NestFoundLemmas.first_word}
use Rattle.gix_refspec_lint.proofs.nestings.free_word.Goals as goal

pub returns : goal.returns
returns c letter words = first_word letter _ c.first.result
    (c.first.ensures.value ∙ ap (λ l. slice_get l 0) c.as_slice.ensures.value) words
