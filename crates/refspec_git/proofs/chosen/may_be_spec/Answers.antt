-- By its looks.
use Rattle.std.proofs.Common.{inl, inr}
use Rattle.refspec_git.proofs.chosen.may_be_spec.Goals as goal

pub returns-in-Spec : goal.returns-in-Spec
returns-in-Spec c = inl c.in-Spec.ensures

pub returns-in-Either : goal.returns-in-Either
returns-in-Either c = inr c.in-Either.ensures

pub returns-in-Url : goal.returns-in-Url
returns-in-Url c = inl c.in-Url.ensures

pub returns-in-Plain : goal.returns-in-Plain
returns-in-Plain c = inr c.in-Plain.ensures
