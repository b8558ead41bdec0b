-- Settings of Git's configuration, by git-config(1).
use Rattle.std.specs.Prelude.{◌≡◌, ℕ, List, [], ◌∷◌, ◌++◌, Bool, Option, None, option_map, filter}
use Rattle.std.specs.Str.{bytes_eq}
use Rattle.gix_refspec_text.specs.Texts.Words.{Lacks}
use Rattle.refspec_io.specs.declared.settings.Setting.{Setting}

-- the key of a variable: its section, the name and the variable, with dots between
abbrev pub joined_key : List ℕ → List ℕ → List ℕ → List ℕ
joined_key section name variable = section ++ (46 ∷ (name ++ (46 ∷ variable)))

-- the name and the variable of a key in a section: the variable contains no dot
pub record IsKey (section name variable key : List ℕ) : Type 0 where
  pub parts : key ≡ joined_key section name variable
  pub last : Lacks 46 variable

-- the key is in a section, and P holds of its name and its variable
abbrev pub IsKeyWhere : List ℕ → (List ℕ → List ℕ → Type 0) → List ℕ → Type 0
IsKeyWhere section P key = (name : List ℕ) × (variable : List ℕ) × IsKey section name variable key × P name variable

-- whether a setting has this key
abbrev pub has_key : List ℕ → Setting → Bool
has_key key s = bytes_eq s.key.now key

-- the settings with this key, in the order of the configuration
abbrev pub settings_with : List ℕ → List Setting → List Setting
settings_with key settings = filter (has_key key) settings

-- the value of a setting, if it has one
abbrev pub value_in : Setting → Option (List ℕ)
value_in s = option_map (λ value. value.now) s.value

-- the value of the last of some settings; none if there is no setting, or the last has no value
abbrev pub value_of_last : List Setting → Option (List ℕ)
value_of_last [] = None
value_of_last (s ∷ []) = value_in s
value_of_last (s ∷ (other ∷ more)) = value_of_last (other ∷ more)
