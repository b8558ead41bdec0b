use Rattle.gix_refspec_text.proofs.{Common.arith, lemmas.parsing.SideLemmas.Lacks-name}
use Rattle.gix_refspec_text.proofs.parsing.reading.starred.Goals as goal

pub returns-in-Ok-Name : goal.returns-in-Ok-Name
returns-in-Ok-Name c = grind (arith, Lacks-name)
