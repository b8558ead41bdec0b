use Rattle.gix_refspec_text.proofs.Common.{arith, common_steps}
use Rattle.gix_refspec_text.proofs.lemmas.texts.NameLemmas.{slash_adds, last_byte, locked_after_slash}
use Rattle.gix_refspec_text.proofs.name.special_fault.Goals as goal

pub returns-then-ends_with : goal.returns-then-ends_with
returns-then-ends_with c = search (arith, locked_after_slash)

pub returns-else-ends_with : goal.returns-else-ends_with
returns-else-ends_with c e = grind (arith, common_steps, slash_adds, last_byte, locked_after_slash)
