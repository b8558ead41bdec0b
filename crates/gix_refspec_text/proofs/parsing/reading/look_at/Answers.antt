use Rattle.gix_refspec_text.proofs.Common.{arith}
use Rattle.gix_refspec_text.proofs.lemmas.texts.LetterLemmas.{Lacks-count_by, HasOneStar-count_by, name_without_stars}
use Rattle.gix_refspec_text.proofs.lemmas.texts.LetterLemmas.{pattern_with_letter}
use Rattle.gix_refspec_text.proofs.parsing.reading.look_at.Goals as goal

pub returns-in-Ok-true-clause-ok : goal.returns-in-Ok-true-clause-ok
returns-in-Ok-true-clause-ok c = grind (arith, pattern_with_letter, HasOneStar-count_by)

pub returns-in-Ok-false-clause-ok : goal.returns-in-Ok-false-clause-ok
returns-in-Ok-false-clause-ok c = grind (arith, name_without_stars, Lacks-count_by)
