-- The settings at which Git stops, by git-config(1): one that needs a value and has none, and one that is read as a
-- boolean and is none. Only commands that fetch read those of a fetch.
use Rattle.std.specs.Prelude.{◌≡◌, ◌⊎◌, List, ◌∷◌, ◌++◌, None, Some, ⊤}
use Rattle.std.specs.List.{All}
use Rattle.refspec_io.specs.declared.settings.Setting.{Setting}
use Rattle.refspec_request.specs.declared.arguments.Subcommand.{Subcommand}
use Rattle.refspec_request.specs.declared.arguments.Subcommand.TheVariants as command
use Rattle.refspec_request.specs.declared.booleans.Boolean.TheVariants.{Bad}
use Rattle.refspec_request.specs.declared.refusal.Refusal.{Refusal}
use Rattle.refspec_request.specs.declared.refusal.Refusal.TheVariants as refusal
use Rattle.refspec_request.specs.Booleans.{IsBooleanOfFetches, IsBooleanOfRemotes, Means}
use Rattle.refspec_request.specs.Needed.{NeedsValue}

-- a command fetches, or says what a fetch does
abbrev pub Fetches : Subcommand → Type 0
Fetches command.Track = ⊥
Fetches command.Upstream = ⊥
Fetches _ = ⊤

-- Git reads a setting as a boolean: those of a fetch only for these commands
abbrev pub IsReadAsBoolean : Subcommand → Setting → Type 0
IsReadAsBoolean c s =
    IsBooleanOfRemotes s.key.now ⊎ (Fetches c × IsBooleanOfFetches s.key.now)

-- the refusal of a setting
abbrev pub StopsAt : Subcommand → Setting → Refusal → Type 0
StopsAt c s (refusal.NoValue origin key) =
    (s.value ≡ None) × NeedsValue s.key.now × (origin ≡ s.origin) × (key ≡ s.key)
StopsAt c s (refusal.BadBoolean origin key value) =
    (s.value ≡ Some value) × IsReadAsBoolean c s × Means value.now Bad × (origin ≡ s.origin) × (key ≡ s.key)
StopsAt c s _ = ⊥

-- Git doesn't stop at a setting
abbrev pub Passes : Subcommand → Setting → Type 0
Passes c s = (e : Refusal) → ¬ (StopsAt c s e)

-- Git stops at the first of some settings at which it does
pub record StopsFirst (c : Subcommand) (settings : List Setting) (e : Refusal) : Type 0 where
  pub before : List Setting
  pub at : Setting
  pub behind : List Setting
  pub parts : settings ≡ before ++ at ∷ behind
  pub passed : All (Passes c) before
  pub stops : StopsAt c at e
