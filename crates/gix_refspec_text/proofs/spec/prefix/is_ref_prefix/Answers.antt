use Rattle.gix_refspec_text.proofs.{Common.arith, lemmas.texts.TextLemmas.Lacks-ContainsText}
use Rattle.gix_refspec_text.proofs.spec.prefix.is_ref_prefix.Goals as goal

pub returns-then-not-contains : goal.returns-then-not-contains
returns-then-not-contains c = grind (arith, Lacks-ContainsText)

pub returns-else-not-contains : goal.returns-else-not-contains
returns-else-not-contains c = grind (arith, Lacks-ContainsText)
