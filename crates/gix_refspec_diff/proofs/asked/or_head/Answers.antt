use Rattle.gix_refspec_diff.proofs.Common.{inr, subst, sym}
use Rattle.gix_refspec_lint.proofs.Common.{IsName}
use Rattle.gix_refspec_text.proofs.lemmas.texts.HeadLemmas.{IsName-head}
use Rattle.gix_refspec_diff.proofs.asked.or_head.Goals as goal

pub fetch_of-requires-clause-name : goal.fetch_of-requires-clause-name
fetch_of-requires-clause-name c = subst IsName (sym c.new.ensures) IsName-head

pub fetch_of-requires-clause-full : goal.fetch_of-requires-clause-full
fetch_of-requires-clause-full c = inr c.new.ensures
