-- The name is looked up among the refs.
use Rattle.std.proofs.Common.{◌≡◌, ◌≢◌, ◌⊎◌, ◌∙◌, Bor, List, MatchOption, Option, [], ap, subst, sym, ℕ}
use Rattle.std.specs.Option.{option_copied}
use Rattle.refspec_git.proofs.refs.looked_up.Goals as goal

-- what is looked up, by what the refs have at the name
abbrev IsFor : List ℕ → List ℕ → Option (Bor (List ℕ)) → Type 0
IsFor name ref found = MatchOption found (ref ≡ name)
    (λ target. ((target.now ≡ []) × (ref ≡ name)) ⊎ ((target.now ≢ []) × (ref ≡ target.now)))

pub returns-in-Some : goal.returns-in-Some
returns-in-Some c = subst (IsFor c.args.name.now c.target_or.result.now)
    (sym (ap option_copied c.in-Some.is) ∙ c.get.ensures.value) c.target_or.ensures
