-- The sentence is the text before the NUL, for 0 and for the number of each failure.
use Rattle.std.proofs.Common.{refl}
use Rattle.gix_refspec_c.specs.Explanation.{said, well}
use Rattle.gix_refspec_c.specs.Outcome.{done}
use Rattle.gix_refspec_c.proofs.explanation.gix_refspec_explanation.Goals as goal

pub returns-then-outcome-eq0-clause-done : goal.returns-then-outcome-eq0-clause-done
returns-then-outcome-eq0-clause-done c = λ zero. (refl, c.before_nul.ensures well refl)

pub returns-in-Some-clause-failure : goal.returns-in-Some-clause-failure
returns-in-Some-clause-failure c = λ other. done c.in-Some.failure c.in-Some.ensures refl
    (c.before_nul-in-Some.ensures (said c.in-Some.failure) c.sentence_of.ensures)
