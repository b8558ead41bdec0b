use Rattle.gix_refspec_text.proofs.{Common.arith, lemmas.texts.NameLemmas.{end_leaves, last_byte, locked_after_slash}}
use Rattle.gix_refspec_text.proofs.name.left_fault.Goals as goal

pub returns-in_default : goal.returns-in_default
returns-in_default c = (locked_after_slash c.args.text.now _ c.ends_with.ensures.value).0 c.if-ends_with.true

pub returns-in_default-2 : goal.returns-in_default-2
returns-in_default-2 c e = grind (arith, end_leaves, last_byte, locked_after_slash)
