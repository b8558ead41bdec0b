-- The remote is refused, or not.
use Rattle.std.proofs.Common.{List, ◌++◌, ◌∷◌, [], subst, sym, ℕ}
use Rattle.refspec_request.specs.Choices.{HasNoOldForm, IsOldForm}
use Rattle.refspec_git.specs.Checking.{AreOldForms}
use Rattle.refspec_git.proofs.CheckingLemmas.{olds_more, olds_same}
use Rattle.refspec_git.proofs.checking.add_old_form.Goals as goal

pub returns-in-None : goal.returns-in-None
returns-in-None c = λ seen are.
    olds_same c.args.repository.now seen c.args.refusals.now.items c.args.old.now are
    (subst (HasNoOldForm c.args.repository.now) c.as_slice.ensures.value c.in-None.ensures)

pub returns-in_ok-push-in-Some : goal.returns-in_ok-push-in-Some
returns-in_ok-push-in-Some c = λ seen are.
    let r = c.args.repository.now in
    subst (AreOldForms r (seen ++ c.args.old.now ∷ [])) (sym c.in_ok-push-in-Some.ensures.items)
    (olds_more r seen c.args.refusals.now.items c.args.old.now c.in-Some.refusal are
    (subst (λ (n : List ℕ). IsOldForm r n c.in-Some.refusal) c.as_slice.ensures.value c.in-Some.ensures))
