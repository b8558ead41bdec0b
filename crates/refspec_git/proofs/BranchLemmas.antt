-- The branches of a call, and what the configuration says of them.
use Rattle.std.proofs.Common.{◌≡◌, ◌⊎◌, ◌-◌, ◌∙◌, ◌++◌, ◌∷◌, [], ℕ, Bor, List, MatchOption, None, Option, Some, ap, inl}
use Rattle.std.proofs.Common.{Bool, arith, cond, false, inr, length, option_map, refl, subst, sym, unwrap_or, zero, ◌<◌}
use Rattle.std.proofs.lemmas.Slice.Eq.{bytes_eq-Decides}
use Rattle.std.specs.BTreeMap.{BTreeMap}
use Rattle.std.specs.Global.{Vec}
use Rattle.std.specs.List.{Any, slice_get}
use Rattle.std.specs.Str.{bytes_eq}
use Rattle.std.specs.String.{string_bytes}
use Rattle.gix_refspec_text.specs.Texts.Words.{Lacks}
use Rattle.refspec_io.specs.declared.settings.Setting.{Setting}
use Rattle.refspec_request.specs.Refusals.{IsForMemory}
use Rattle.refspec_request.specs.Remotes.{AreValuesBy, IsOfName}
use Rattle.refspec_request.specs.Remotes.{IsInFile, folder_of}
use Rattle.refspec_request.specs.declared.remotes.OldRemote.{OldRemote}
use Rattle.refspec_request.proofs.SettingLemmas.{false_unless}
use Rattle.refspec_request.specs.Settings.{joined_key, settings_with, value_in, value_of_last}
use Rattle.refspec_request.specs.declared.arguments.Request.{Request}
use Rattle.refspec_request.specs.declared.choice.Repository.{Repository}
use Rattle.refspec_request.specs.declared.refusal.Refusal.{Refusal}
use Rattle.refspec_request.proofs.FetchLemmas.{Any-behind, none_named, values_at}
use Rattle.refspec_git.specs.declared.branches.Branch.{Branch}
use Rattle.refspec_git.specs.Branches.{AddsBranch, AreBranchesIn, RefusesChosenBranches, RefusesNamedBranches}
use Rattle.refspec_git.specs.Branches.{settings_at, value_of_first}

-- the settings that are found, if some are
abbrev pub items_of : Option (Vec Setting) → List Setting
items_of found = unwrap_or (option_map (λ v. v.items) found) []

-- what settings by name have for a name are its settings
pub settings_named : (section variable name : List ℕ) (settings : List Setting)
    (values : BTreeMap (Bor (List ℕ)) (Vec Setting)) → Lacks 46 variable → AreValuesBy section variable settings values
    → settings_at values name ≡ settings_with (joined_key section name variable) settings
settings_named section variable name settings values lacks are = by (values_at values name) (are name)
  where
    by : (found : Option (Vec Setting)) → MatchOption found (¬ (Any (IsOfName section name) settings))
        (λ named. Any (IsOfName section name) settings
        × (named.items ≡ settings_with (joined_key section name variable) settings))
        → unwrap_or (option_map (λ (v : Vec Setting). v.items) found) []
        ≡ settings_with (joined_key section name variable) settings
    by None none = sym (none_named section variable name settings lacks none)
    by (Some v) some = some.1

-- one entry more
pub AreBranchesIn-more : (settings : List Setting) (entries : List (Bor (List ℕ) × Vec Setting))
    (e : Bor (List ℕ) × Vec Setting) (old new : List Branch) → AddsBranch settings e.0 e.1.items old new
    → AreBranchesIn settings entries old → AreBranchesIn settings (entries ++ e ∷ []) new
AreBranchesIn-more settings [] e old new (inl (b, some, is, grown)) none =
    inl (b, [], some, is, refl, grown ∙ ap (λ l. l ++ b ∷ []) none)
AreBranchesIn-more settings [] e old new (inr (bare, same)) none = inr (bare, same ∙ none)
AreBranchesIn-more settings (d ∷ entries) e old new adds (inr (bare, are)) =
    inr (bare, AreBranchesIn-more settings entries e old new adds are)
AreBranchesIn-more settings (d ∷ entries) e old new (inl (b, some, is, grown))
    (inl (first, rest, has, read, are, here)) =
    inl (
      first,
      rest ++ b ∷ [],
      has,
      read,
      AreBranchesIn-more settings entries e rest (rest ++ b ∷ []) (inl (b, some, is, refl)) are,
      grown ∙ ap (λ l. l ++ b ∷ []) here,
    )
AreBranchesIn-more settings (d ∷ entries) e old new (inr (bare, same)) (inl (first, rest, has, read, are, here)) = inl (
  first,
  rest,
  has,
  read,
  AreBranchesIn-more settings entries e rest rest (inr (bare, refl)) are,
  same ∙ here,
)

-- a refusal of the first argument that names no branch
pub named_refused : (r : Repository) (request : Request) (arguments : List (Bor (List ℕ))) (e : Refusal)
    → arguments ≡ request.arguments.items → IsForMemory e ⊎ RefusesNamedBranches r arguments e
    → RefusesChosenBranches r request e
named_refused r request arguments e same (inl memory) = inl memory
named_refused r request arguments e same (inr first) =
    inr (inl (subst (λ (l : List (Bor (List ℕ))). RefusesNamedBranches r l e) same first))

-- the value of a setting, if there is one
abbrev pub value_found : Option Setting → Option (List ℕ)
value_found None = None
value_found (Some s) = value_in s

pub first_found : (xs : List Setting) → value_found (slice_get xs 0) ≡ value_of_first xs
first_found [] = refl
first_found (x ∷ xs) = refl

last_at : (x : Setting) (xs : List Setting) → value_found (slice_get (x ∷ xs) (length xs)) ≡ value_of_last (x ∷ xs)
last_at x [] = refl
last_at x (y ∷ more) = last_at y more

pub last_found : (xs : List Setting) → value_found (slice_get xs (length xs - 1)) ≡ value_of_last xs
last_found [] = refl
last_found (x ∷ xs) =
    let same : length (x ∷ xs) - 1 ≡ length xs = omega arith in
    ap (λ i. value_found (slice_get (x ∷ xs) i)) same ∙ last_at x xs

-- no file of a remote has its name
pub no_folder : (name : List ℕ) (files : List OldRemote) → ¬ (IsInFile files name) → folder_of name files ≡ None
no_folder name [] none = refl
no_folder name (file ∷ files) none =
    let long : 0 < length (file ∷ files) = omega arith in
    let other : bytes_eq file.name.items name ≡ false = sym (false_unless _
    (λ t. none (zero, file, long, refl, (bytes_eq-Decides file.name.items name).0 t))) in
    ap (λ (b : Bool). cond b (Some (string_bytes file.folder)) (folder_of name files)) other
    ∙ no_folder name files (λ some. none (Any-behind (λ (f : OldRemote). f.name.items ≡ name) file files some))
