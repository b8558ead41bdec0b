-- By its number, or by its looks.
use Rattle.std.proofs.Common.{MatchBool, subst, sym}
use Rattle.refspec_git.specs.Chosen.{IsNoSpecAt, IsSpecAt}
use Rattle.refspec_git.proofs.chosen.is_spec_at.Goals as goal

pub returns-in-Some : goal.returns-in-Some
returns-in-Some c =
    let number = c.args.number in
    let a = c.args.argument.now in
    subst (λ o. MatchBool c.is_behind.result (IsSpecAt o number a) (IsNoSpecAt o number a)) (sym c.in-Some.is)
    c.is_behind.ensures

pub returns-in-None : goal.returns-in-None
returns-in-None c =
    let number = c.args.number in
    let a = c.args.argument.now in
    subst (λ o. MatchBool c.may_be_spec.result (IsSpecAt o number a) (IsNoSpecAt o number a)) (sym c.in-None.is)
    c.may_be_spec.ensures
