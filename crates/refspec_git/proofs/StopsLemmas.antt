-- Settings at which Git doesn't stop.
use Rattle.std.proofs.Common.{◌≡◌, ◌∙◌, ◌+◌, ◌++◌, ◌<◌, ℕ, Bor, List, None, Some, ap, drop, get_or, length, subst, sym}
use Rattle.std.proofs.Common.{take}
use Rattle.std.proofs.lemmas.List.{drop_more, take-append-drop}
use Rattle.std.proofs.lemmas.Option.{none-some, same_Some}
use Rattle.std.specs.List.{All}
use Rattle.refspec_io.specs.declared.settings.Setting.{Setting}
use Rattle.refspec_request.specs.Booleans.{Means}
use Rattle.refspec_request.specs.declared.arguments.Subcommand.{Subcommand}
use Rattle.refspec_request.specs.declared.booleans.Boolean.TheVariants.{Bad}
use Rattle.refspec_request.specs.declared.refusal.Refusal.{Refusal}
use Rattle.refspec_request.specs.declared.refusal.Refusal.TheVariants as refusal
use Rattle.refspec_request.specs.Needed.{NeedsValue}
use Rattle.refspec_git.specs.Stops.{IsReadAsBoolean, Passes, StopsAt, StopsFirst}

-- one without a value that needs none
pub passes_bare : (c : Subcommand) (s : Setting) → s.value ≡ None → ¬ (NeedsValue s.key.now) → Passes c s
passes_bare c s bare idle (refusal.NoValue origin key) stops = idle stops.1
passes_bare c s bare idle (refusal.BadBoolean origin key value) stops = none-some value (sym bare ∙ stops.0)
passes_bare c s bare idle _ stops = stops

-- one with a value that isn't a bad boolean
pub passes_valued : (c : Subcommand) (s : Setting) (v : Bor (List ℕ)) → s.value ≡ Some v
    → (IsReadAsBoolean c s → ¬ (Means v.now Bad)) → Passes c s
passes_valued c s v is good (refusal.NoValue origin key) stops = none-some v (sym stops.0 ∙ is)
passes_valued c s v is good (refusal.BadBoolean origin key value) stops =
    good stops.1 (subst (λ (b : Bor (List ℕ)). Means b.now Bad) (same_Some value v (sym stops.0 ∙ is)) stops.2)
passes_valued c s v is good _ stops = stops

-- the first setting at which Git stops, by its index
pub StopsFirst-at : (c : Subcommand) (settings : List Setting) (i : ℕ) (d : Setting) (e : Refusal) → i < length settings
    → All (Passes c) (take i settings) → StopsAt c (get_or settings i d) e → StopsFirst c settings e
StopsFirst-at c settings i d e below passed stops = record {
  before = take i settings;
  at = get_or settings i d;
  behind = drop (i + 1) settings;
  parts = sym (take-append-drop i settings) ∙ ap (λ l. take i settings ++ l) (drop_more settings i d below);
  passed = passed;
  stops = stops;
}
