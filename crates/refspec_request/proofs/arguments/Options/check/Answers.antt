-- The name of the remote, the options in order, and --refmap.
use Rattle.std.proofs.Common.{Bor, List, inl, inr, map, refl, subst, ℕ}
use Rattle.std.proofs.lemmas.Result.{MatchResult-weaker, err_from_is_err_and}
use Rattle.std.specs.List.{All}
use Rattle.refspec_request.specs.declared.arguments.Switch.{Switch}
use Rattle.refspec_request.specs.Arguments.{RefusesRefmap, Takes, TakesRefmap}
use Rattle.refspec_request.proofs.ArgumentLemmas.{given_told}
use Rattle.refspec_request.proofs.SettingLemmas.{not_so}
use Rattle.refspec_request.proofs.arguments.Options.check.Goals as goal

abbrev now : Bor (List ℕ) → List ℕ
now it = it.now

pub returns-then-names_nothing : goal.returns-then-names_nothing
returns-then-names_nothing c = inl (refl, c.if-names_nothing.ensures.0 refl)

pub returns-in_err-check_switches : goal.returns-in_err-check_switches
returns-in_err-check_switches c =
    let q = err_from_is_err_and c.from_residual.result c.from_residual.ensures.1 in
    rw (q.1, q.2) (inr (inl (
      not_so _ c.if-names_nothing.ensures,
      given_told _ _ _ _ c.as_slice.ensures.value c.in_err-check_switches.ensures,
    )))

pub returns : goal.returns
returns c =
    let named = not_so _ c.if-names_nothing.ensures in
    let taken = subst (λ (l : List Switch). All (Takes c.args.command) l) c.as_slice.ensures.value
    c.in_ok-check_switches.ensures in
    let same = c.as_slice-2.ensures.value in
    MatchResult-weaker c.check_refmap.result c.check_refmap.ensures
    (λ done maps. record {
      named = named;
      taken = taken;
      maps = subst (λ (l : List (Bor (List ℕ))). TakesRefmap c.args.command (map now l)) same maps;
    })
    (λ e told. inr (inr (
      named,
      taken,
      subst (λ (l : List (Bor (List ℕ))). RefusesRefmap c.args.command (map now l) e) same told,
    )))
