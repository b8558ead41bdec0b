-- The branches of a call of `git refspec upstream`, and what the configuration says of each, by git-config(1) under
-- branch.<name>. That the first merge value counts, and the last remote, no manual states; Git does so.
use Rattle.std.specs.Prelude.{◌≡◌, ◌≢◌, ◌⊎◌, ℕ, List, [], ◌∷◌, ◌++◌, MatchOption, Option, None, codes}
use Rattle.std.specs.Prelude.{option_map, unwrap_or, ⊤}
use Rattle.std.specs.BTreeMap.{BTreeMap, get_by}
use Rattle.std.specs.Borrow.{Bor}
use Rattle.std.specs.Cmp.Lexicographic.{slice_cmp}
use Rattle.std.specs.Global.{Vec}
use Rattle.std.specs.List.{All, AllZip}
use Rattle.std.specs.Ordering.{nat_cmp}
use Rattle.refspec_io.specs.declared.settings.Setting.{Setting}
use Rattle.refspec_request.specs.Choices.{HasNoOldForm, IsOldForm}
use Rattle.refspec_request.specs.Refusals.{IsForMemory}
use Rattle.refspec_request.specs.Remotes.{AreValuesBy}
use Rattle.refspec_request.specs.Settings.{joined_key, settings_with, value_in, value_of_last}
use Rattle.refspec_request.specs.declared.arguments.Request.{Request}
use Rattle.refspec_request.specs.declared.choice.Repository.{Repository}
use Rattle.refspec_request.specs.declared.refusal.Refusal.{Refusal}
use Rattle.refspec_request.specs.declared.refusal.Refusal.TheVariants as refusal
use Rattle.refspec_git.specs.declared.branches.Branch.{Branch}
use Rattle.refspec_git.specs.declared.branches.Values.{Values}
use Rattle.refspec_git.specs.Named.{HasFirst}
use Rattle.refspec_git.specs.Refs.{IsRef}

-- the settings of a variable of a branch
abbrev pub branch_settings : List Setting → (branch variable : List ℕ) → List Setting
branch_settings settings branch variable = settings_with (joined_key (codes "branch") branch variable) settings

-- the value of the first of some settings
abbrev pub value_of_first : List Setting → Option (List ℕ)
value_of_first [] = None
value_of_first (s ∷ more) = value_in s

-- the branch with this name: the last value of its remote counts, and the first of what it merges
pub record IsBranch (settings : List Setting) (name : List ℕ) (b : Branch) : Type 0 where
  pub named : b.name.now ≡ name
  pub remote : option_map (λ v. v.now) b.remote ≡ value_of_last (branch_settings settings name (codes "remote"))
  pub merge : option_map (λ v. v.now) b.merge ≡ value_of_first (branch_settings settings name (codes "merge"))

-- what settings by name have for a name
abbrev pub settings_at : BTreeMap (Bor (List ℕ)) (Vec Setting) → List ℕ → List Setting
settings_at values name = unwrap_or (option_map (λ v. v.items) (get_by (λ k. slice_cmp nat_cmp name k.now) values)) []

-- the settings of branches, by name
pub record AreOfBranches (settings : List Setting) (v : Values) : Type 0 where
  pub remotes : AreValuesBy (codes "branch") (codes "remote") settings v.remotes
  pub merges : AreValuesBy (codes "branch") (codes "merge") settings v.merges

-- ---- the branches that arguments name

-- an argument that means the current branch
abbrev pub IsHead : List ℕ → Type 0
IsHead a = (a ≡ codes "HEAD") ⊎ (a ≡ codes "@")

-- the name of a branch: what is behind `refs/heads/`, or the argument if that isn't there
abbrev pub IsBelowHeads : List ℕ → List ℕ → Type 0
IsBelowHeads a name = (a ≡ codes "refs/heads/" ++ name)
    ⊎ (((rest : List ℕ) → a ≢ codes "refs/heads/" ++ rest) × (name ≡ a))

-- an argument names this branch
abbrev pub NamesBranch : Repository → List ℕ → List ℕ → Type 0
NamesBranch r a name = (IsHead a × (name ≡ r.branch.now) × (r.branch.now ≢ []))
    ⊎ (¬ (IsHead a) × IsRef a × IsBelowHeads a name)

-- why it names none: HEAD points elsewhere, or it is no ref name
abbrev pub RefusesBranch : Repository → Bor (List ℕ) → Refusal → Type 0
RefusesBranch r a e = ((e ≡ refusal.NoBranchAtHead a) × IsHead a.now × (r.branch.now ≡ []))
    ⊎ ((e ≡ refusal.NoRefName a) × ¬ (IsHead a.now) × ¬ (IsRef a.now))

-- a branch is the one that an argument names
abbrev pub IsNamedBranch : Repository → Bor (List ℕ) → Branch → Type 0
IsNamedBranch r a b = (name : List ℕ) × NamesBranch r a.now name × IsBranch r.settings.now name b

-- ---- all branches

-- those of entries with values, in order
abbrev pub AreBranchesIn : List Setting → List (Bor (List ℕ) × Vec Setting) → List Branch → Type 0
AreBranchesIn settings [] branches = branches ≡ []
AreBranchesIn settings (entry ∷ entries) branches =
    ((b : Branch) × (rest : List Branch) × (entry.1.items ≢ []) × IsBranch settings entry.0.now b
    × AreBranchesIn settings entries rest × (branches ≡ b ∷ rest))
    ⊎ ((entry.1.items ≡ []) × AreBranchesIn settings entries branches)

-- the branches grew by one with these merge values, if there are any
abbrev pub AddsBranch : List Setting → Bor (List ℕ) → List Setting → List Branch → List Branch → Type 0
AddsBranch settings name values old new =
    ((b : Branch) × (values ≢ []) × IsBranch settings name.now b × (new ≡ old ++ b ∷ []))
    ⊎ ((values ≡ []) × (new ≡ old))

-- the branches that have a merge value, in the order of their names
abbrev pub AreAllBranches : List Setting → List Branch → Type 0
AreAllBranches settings branches = (values : BTreeMap (Bor (List ℕ)) (Vec Setting))
    × AreValuesBy (codes "branch") (codes "merge") settings values × AreBranchesIn settings values.entries branches

-- ---- the branches of a call

-- those that its arguments name, or all
abbrev pub AreChosenBranches : Repository → Request → List Branch → Type 0
AreChosenBranches r request branches =
    ((request.arguments.items ≢ []) × AllZip (IsNamedBranch r) request.arguments.items branches)
    ⊎ ((request.arguments.items ≡ []) × AreAllBranches r.settings.now branches × (branches ≢ []))

-- the refusal of the first argument that names no branch
abbrev pub RefusesNamedBranches : Repository → List (Bor (List ℕ)) → Refusal → Type 0
RefusesNamedBranches r arguments e =
    HasFirst (λ a. (name : List ℕ) × NamesBranch r a.now name) (λ a. RefusesBranch r a e) arguments

-- why there are none, unless memory runs out: of the first argument that names no branch, or as no branch has a merge
-- value
abbrev pub RefusesChosenBranches : Repository → Request → Refusal → Type 0
RefusesChosenBranches r request e = IsForMemory e ⊎ RefusesNamedBranches r request.arguments.items e
    ⊎ ((e ≡ refusal.NoMergedRef) × (request.arguments.items ≡ []) × AreAllBranches r.settings.now [])

-- the remote of a branch has no file of its own; or it has, and this is the refusal
abbrev pub HasNoOldRemote : Repository → Branch → Type 0
HasNoOldRemote r b = MatchOption b.remote ⊤ (λ remote. HasNoOldForm r remote.now)

abbrev pub HasOldRemote : Repository → Refusal → Branch → Type 0
HasOldRemote r e b = MatchOption b.remote ⊥ (λ remote. IsOldForm r remote.now e)

-- the branches of a call, which names no remote
pub record AreBranches (r : Repository) (request : Request) (branches : List Branch) : Type 0 where
  pub free : request.remote ≡ None
  pub chosen : AreChosenBranches r request branches
  pub new : All (HasNoOldRemote r) branches

-- why a call is refused: it names a remote, or no branches, or the remote of one has a file of its own
abbrev pub RefusesBranches : Repository → Request → Refusal → Type 0
RefusesBranches r request e = ((e ≡ refusal.RemoteOfBranches) × (request.remote ≢ None))
    ⊎ RefusesChosenBranches r request e
    ⊎ ((branches : List Branch) × AreChosenBranches r request branches
    × HasFirst (HasNoOldRemote r) (HasOldRemote r e) branches)
