use Rattle.gix_refspec_lint.proofs.Common.{refl, reading_of, true}
use Rattle.gix_refspec_lint.proofs.lemmas.AlikeLemmas.{same_sign}
use Rattle.gix_refspec_lint.proofs.alike.have_same_sign.Goals as goal

pub returns-then-is_negative : goal.returns-then-is_negative
returns-then-is_negative c is = same_sign true true (reading_of c.args.one.now).mode (reading_of c.args.other.now).mode
    (rw c.if-is_negative.true at c.is_negative.ensures) (rw is at c.is_negative-then-is_negative.ensures) refl
