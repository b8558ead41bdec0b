use Rattle.gix_refspec_text.proofs.{Common.arith, lemmas.texts.LetterLemmas.{Lacks-count_by, name_without_stars}}
use Rattle.gix_refspec_text.proofs.name.fault_of.Goals as goal

pub returns-in-Ok-false : goal.returns-in-Ok-false
returns-in-Ok-false c = grind (arith, Lacks-count_by, name_without_stars)
