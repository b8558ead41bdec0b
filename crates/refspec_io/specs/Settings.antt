-- Settings of a configuration, as `git config --show-origin -z` prints them (git-config(1)): each in two records, its
-- origin, and its key, a newline and its value. A key without `=` has neither newline nor value.
use Rattle.std.specs.Prelude.{◌≡◌, ◌⊎◌, ℕ, List, [], ◌∷◌, ◌++◌, None, MatchOption, codes}
use Rattle.gix_refspec.specs.Texts.Words.{BeginsWith, Lacks}
use Rattle.gix_refspec_text.specs.declared.parsing.Operation.{Operation}
use Rattle.gix_refspec_text.specs.declared.parsing.Operation.TheVariants as operation
use Rattle.refspec_io.specs.declared.call.Terminator.{Terminator}
use Rattle.refspec_io.specs.declared.call.Terminator.TheVariants as ends
use Rattle.refspec_io.specs.declared.settings.Setting.{Setting}
use Rattle.refspec_io.specs.Input.{AreRecords}

-- the record is an origin: a file, the standard input, a blob or the command line (git-config(1), --show-origin)
abbrev pub IsOrigin : List ℕ → Type 0
IsOrigin record_ =
    BeginsWith (codes "file:") record_
    ⊎ (BeginsWith (codes "standard input:") record_
    ⊎ (BeginsWith (codes "blob:") record_ ⊎ BeginsWith (codes "command line:") record_))

-- the two records of a setting: its origin, and its key alone, or its key, a newline and its value
pub record IsSetting (origin record_ : List ℕ) (s : Setting) : Type 0 where
  pub from : IsOrigin origin
  pub is_origin : s.origin.now ≡ origin
  pub key : Lacks 10 s.key.now
  pub value : MatchOption s.value (record_ ≡ s.key.now) (λ value. record_ ≡ s.key.now ++ (10 ∷ value.now))

-- the records of settings, two each
abbrev pub ArePairs : List (List ℕ) → List Setting → Type 0
ArePairs [] settings = settings ≡ []
ArePairs (origin ∷ []) settings = ⊥
ArePairs (origin ∷ (record_ ∷ records)) settings =
    (s : Setting) × (more : List Setting) × IsSetting origin record_ s × ArePairs records more × (settings ≡ s ∷ more)

-- the input consists of these settings
abbrev pub AreSettings : List ℕ → List Setting → Type 0
AreSettings input settings = (records : List (List ℕ)) × AreRecords 0 records input × ArePairs records settings

-- the input is not in the format of settings
abbrev pub IsNoSettings : List ℕ → Type 0
IsNoSettings input = (records : List (List ℕ)) × AreRecords 0 records input
    × ((settings : List Setting) → ¬ (ArePairs records settings))

-- the variable of a remote for the refspecs of an operation (git-config(1), remote.<name>.fetch and remote.<name>.push)
abbrev pub variable_of : Operation → List ℕ
variable_of operation.Fetch = codes ".fetch"
variable_of operation.Push = codes ".push"

-- the key is one of refspecs for the operation
abbrev pub HoldsSpecs : List ℕ → Operation → Type 0
HoldsSpecs key op = (name : List ℕ) × (key ≡ codes "remote." ++ (name ++ variable_of op))

-- the key is one of refspecs, and has no value: Git refuses such a configuration ("missing value")
abbrev pub LacksValue : Setting → Type 0
LacksValue s = (op : Operation) × HoldsSpecs s.key.now op × (s.value ≡ None)

abbrev pub HasLacking : List Setting → Type 0
HasLacking [] = ⊥
HasLacking (s ∷ settings) = LacksValue s ⊎ HasLacking settings

-- the settings of both inputs, if they are read as settings; else none
abbrev pub AreSettingsOf : Terminator → List ℕ → List ℕ → List Setting → Type 0
AreSettingsOf ends.Settings beside input settings =
    (front : List Setting) × (back : List Setting) × AreSettings beside front × AreSettings input back
    × (settings ≡ front ++ back)
AreSettingsOf _ beside input settings = settings ≡ []

-- the inputs are read as settings, and one of them isn't in their format
abbrev pub HasNoSettings : Terminator → List ℕ → List ℕ → Type 0
HasNoSettings ends.Settings beside input = IsNoSettings beside ⊎ IsNoSettings input
HasNoSettings _ beside input = ⊥
