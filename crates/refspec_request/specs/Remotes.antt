-- The remotes of a configuration, by git-config(1) and git-fetch(1).
use Rattle.std.specs.Prelude.{◌≡◌, ◌≢◌, ◌⊎◌, ℕ, ◌<◌, ◌==◌, ◌||◌, not, cond, Bool, List, [], ◌∷◌, ◌++◌, Option, None}
use Rattle.std.specs.Prelude.{Some, MatchOption, unwrap_or, filter, length, codes}
use Rattle.std.specs.BTreeMap.{BTreeMap, get_by}
use Rattle.std.specs.Borrow.{Bor}
use Rattle.std.specs.Cmp.Lexicographic.{slice_cmp}
use Rattle.std.specs.Global.{Vec}
use Rattle.std.specs.List.{Any, flat_map, slice_split}
use Rattle.std.specs.Ordering.{nat_cmp}
use Rattle.std.specs.Str.{bytes_eq}
use Rattle.std.specs.String.{string_bytes}
use Rattle.gix_refspec_text.specs.Texts.Words.{BeginsWith}
use Rattle.refspec_io.specs.declared.settings.Setting.{Setting}
use Rattle.refspec_request.specs.declared.remotes.OldRemote.{OldRemote}
use Rattle.refspec_request.specs.Settings.{IsKeyWhere, joined_key, settings_with, value_in, value_of_last}

-- the setting is one of this name in a section
abbrev pub IsOfName : (section : List ℕ) → List ℕ → Setting → Type 0
IsOfName section name s = IsKeyWhere section (λ other variable. other ≡ name) s.key.now

-- the setting is one of the remote with this name
abbrev pub IsOfRemote : List ℕ → Setting → Type 0
IsOfRemote name s = IsOfName (codes "remote") name s

-- some setting is one of the remote
abbrev pub IsConfigured : List Setting → List ℕ → Type 0
IsConfigured settings name = Any (IsOfRemote name) settings

-- each name in a section has its settings of a variable, in order, and no other name has any
abbrev pub AreValuesBy : (section variable : List ℕ) → List Setting → BTreeMap (Bor (List ℕ)) (Vec Setting) → Type 0
AreValuesBy section variable settings values =
    (name : List ℕ) → MatchOption (get_by (λ k. slice_cmp nat_cmp name k.now) values)
    (¬ (Any (IsOfName section name) settings))
    (λ named. Any (IsOfName section name) settings
    × (named.items ≡ settings_with (joined_key section name variable) settings))

-- each name of a remote has its values of remote.<name>.fetch, in order, and no other name has any
abbrev pub AreFetchValues : List Setting → BTreeMap (Bor (List ℕ)) (Vec Setting) → Type 0
AreFetchValues settings remotes = AreValuesBy (codes "remote") (codes "fetch") settings remotes

-- the setting is one of a remote of another name
abbrev pub IsOfOther : List ℕ → Setting → Type 0
IsOfOther name s = IsKeyWhere (codes "remote") (λ other variable. other ≢ name) s.key.now

-- the key is url.<base>.insteadOf
abbrev pub IsInsteadOf : List ℕ → Type 0
IsInsteadOf key = IsKeyWhere (codes "url") (λ base variable. variable ≡ codes "insteadof") key

-- the setting is one of these, and the URL begins with its value, as each URL does with an empty one
abbrev pub Rewrites : List ℕ → Setting → Type 0
Rewrites url s = IsInsteadOf s.key.now × MatchOption (value_in s) ⊥ (λ start. BeginsWith start url)

-- the setting is one of a remote whose name begins with a slash, which Git ignores
abbrev pub IsIgnored : Setting → Type 0
IsIgnored s = IsKeyWhere (codes "remote") (λ name variable. BeginsWith (codes "/") name) s.key.now

-- the setting says where the remote is: remote.<name>.url, or remote.<name>.vcs
abbrev pub SaysWhere : List ℕ → Setting → Type 0
SaysWhere name s =
    IsKeyWhere (codes "remote") (λ other variable. (other ≡ name)
    × ((variable ≡ codes "url") ⊎ (variable ≡ codes "vcs"))) s.key.now

-- the bytes between the remotes of a group: spaces, tabs and newlines
abbrev pub is_between : ℕ → Bool
is_between b = (b == 32) || (b == 9) || (b == 10)

-- the value with which a setting lists remotes of a group (git-config(1), remotes.<group>); empty for any other setting
abbrev pub members_text : List ℕ → Setting → List ℕ
members_text group s = cond (bytes_eq s.key.now (codes "remotes." ++ group)) (unwrap_or (value_in s) []) []

-- the remotes that such a value lists
abbrev pub listed_in : List ℕ → List (List ℕ)
listed_in text = filter (λ word. not (length word == 0)) (slice_split is_between text)

-- the remotes of a group, in order
abbrev pub members_of : List ℕ → List Setting → List (List ℕ)
members_of group settings = flat_map (λ s. listed_in (members_text group s)) settings

-- the group has several remotes
abbrev pub IsGroup : List Setting → List ℕ → Type 0
IsGroup settings group = 1 < length (members_of group settings)

-- the only remote of a configuration
abbrev pub IsOnly : List Setting → List ℕ → Type 0
IsOnly settings name = IsConfigured settings name × ((other : List ℕ) → IsConfigured settings other → other ≡ name)

-- the only one, or origin if there is none or there are several
abbrev pub IsOnlyOrOrigin : List Setting → List ℕ → Type 0
IsOnlyOrOrigin settings name =
    IsOnly settings name ⊎ (((other : List ℕ) → ¬ (IsOnly settings other)) × (name ≡ codes "origin"))

-- a file of .git/remotes or .git/branches has the name of the remote
abbrev pub IsInFile : List OldRemote → List ℕ → Type 0
IsInFile files name = Any (λ file. file.name.items ≡ name) files

-- the folder of the first such file
abbrev pub folder_of : List ℕ → List OldRemote → Option (List ℕ)
folder_of name [] = None
folder_of name (file ∷ files) =
    cond (bytes_eq file.name.items name) (Some (string_bytes file.folder)) (folder_of name files)

-- Git knows where the remote is
abbrev pub IsLocated : List Setting → List OldRemote → List ℕ → Type 0
IsLocated settings files name = IsInFile files name ⊎ Any (SaysWhere name) settings

-- branch.<branch>.remote: its last value
abbrev pub remote_of_branch : List Setting → List ℕ → Option (List ℕ)
remote_of_branch settings branch = value_of_last (settings_with (joined_key (codes "branch") branch (codes "remote"))
    settings)

-- the remote that `git fetch` without arguments takes (git-fetch(1)): that of the branch, else the only one or
-- origin, if Git knows where that is
abbrev pub IsDefault : List Setting → List ℕ → List OldRemote → Option (List ℕ) → Type 0
IsDefault settings branch files None =
    (remote_of_branch settings branch ≡ None) × ((name : List ℕ) → IsOnlyOrOrigin settings name
    → ¬ (IsLocated settings files name))
IsDefault settings branch files (Some name) = (remote_of_branch settings branch ≡ Some name)
    ⊎ ((remote_of_branch settings branch ≡ None) × IsOnlyOrOrigin settings name × IsLocated settings files name)
