-- The objects with lists have no float.
use Rattle.std.proofs.Common.{◌≡◌, ◌||◌, ℕ, List, [], ◌∷◌, Option, None, Some, map, false, refl, ap}
use Rattle.serde_json.specs.Data.{string}
use Rattle.serde_json.specs.View.{items_of}
use Rattle.serde_json.specs.Written.{has_float, items_have_float}
use Rattle.refspec_json.specs.Objects.{Claimed, Warned, claim_object, conflict_object, missing_object, warned_object}
use Rattle.refspec_json.specs.Objects.{warning_object}

no_float-claims : (sources : List Claimed) → items_have_float (items_of (map claim_object sources)) ≡ false
no_float-claims [] = refl
no_float-claims (s ∷ sources) = no_float-claims sources

pub no_float-conflict : (destination : List ℕ) (sources : List Claimed)
    → has_float (conflict_object destination sources) ≡ false
no_float-conflict destination sources = ap (λ b. b || false) (no_float-claims sources)

no_float-texts : (texts : List (List ℕ)) → items_have_float (items_of (map string texts)) ≡ false
no_float-texts [] = refl
no_float-texts (t ∷ texts) = no_float-texts texts

pub no_float-missing : (spec origin message : List ℕ) (names : List (List ℕ)) (more : Option ℕ)
    → has_float (missing_object spec origin message names more) ≡ false
no_float-missing spec origin message names None = ap (λ b. b || false) (no_float-texts names)
no_float-missing spec origin message names (Some n) = ap (λ b. b || false) (no_float-texts names)

no_float-warned : (specs : List Warned) → items_have_float (items_of (map warned_object specs)) ≡ false
no_float-warned [] = refl
no_float-warned (s ∷ specs) = no_float-warned specs

pub no_float-warning : (name location : List ℕ) (specs : List Warned) (message advice : List ℕ)
    → has_float (warning_object name location specs message advice) ≡ false
no_float-warning name location specs message advice = ap (λ b. b || false) (no_float-warned specs)
