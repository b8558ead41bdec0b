use Rattle.gix_refspec_text.proofs.lemmas.texts.NameLemmas.{ends_last}
use Rattle.gix_refspec_text.proofs.name.last_of.Goals as goal

pub returns-in-len1-up : goal.returns-in-len1-up
returns-in-len1-up c = ends_last c.args.text.now c.in-len1-up.len_at_least
