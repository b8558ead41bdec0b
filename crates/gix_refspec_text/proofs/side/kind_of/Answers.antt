-- The only star makes a pattern. Without one, a side that doesn't begin with `refs/` and isn't an id is a partial name.
use Rattle.gix_refspec_text.proofs.Common.{arith, refl, rules}
use Rattle.gix_refspec_text.proofs.lemmas.texts.ObjectIdLemmas.{IsIdText-sound}
use Rattle.gix_refspec_text.proofs.lemmas.texts.TextLemmas.{Lacks-from_absent}
use Rattle.gix_refspec_text.proofs.side.kind_of.Goals as goal

pub returns-in-Some : goal.returns-in-Some
returns-in-Some c = grind (arith, Lacks-from_absent)

pub returns-in-Err : goal.returns-in-Err
returns-in-Err c =
    (refl, search rules, search rules, λ id. IsIdText-sound c.args.side.now id.0 c.in-Err.field-0 id.1 c.in-Err.ensures)
