-- What the configuration says of a fetch of a remote, by git-config(1): the variables of remote.<name>, fetch and
-- branch.<name>. Git prints variables in lower case.
use Rattle.std.specs.Prelude.{◌≡◌, ◌⊎◌, ◌-◌, ℕ, cond, List, [], Option, None, Some, MatchOption, ⊤, codes}
use Rattle.std.specs.Prelude.{filter_map, length, map, option_map, unwrap_or}
use Rattle.std.specs.List.{slice_get}
use Rattle.std.specs.Str.{bytes_eq}
use Rattle.gix_refspec_text.specs.declared.parsing.Operation.TheVariants as operation
use Rattle.refspec_io.specs.declared.settings.Setting.{Setting}
use Rattle.refspec_io.specs.Texts.{Given}
use Rattle.refspec_fetch.specs.declared.question.Tags.{Tags}
use Rattle.refspec_fetch.specs.declared.question.Tags.TheVariants as tags
use Rattle.refspec_request.specs.Booleans.{Means}
use Rattle.refspec_request.specs.declared.booleans.Boolean.TheVariants.{Bad, False, True}
use Rattle.refspec_request.specs.declared.choice.Repository.{Repository}
use Rattle.refspec_request.specs.Settings.{joined_key, settings_with, value_in, value_of_last}
use Rattle.refspec_git.specs.Texts.{value_at}

-- the settings of a variable of a remote, in the order of the configuration
abbrev pub settings_of_remote : List ℕ → List ℕ → List Setting → List Setting
settings_of_remote remote variable settings = settings_with (joined_key (codes "remote") remote variable) settings

-- a setting as a spec of a fetch; none without a value
abbrev pub fetch_text : Setting → Option Given
fetch_text s = option_map (value_at s operation.Fetch) (value_in s)

-- the fetch values of a remote
abbrev pub fetch_texts : List Setting → List ℕ → List Given
fetch_texts settings remote = filter_map fetch_text (settings_of_remote remote (codes "fetch") settings)

-- the last of some
abbrev pub last_of : {A : Type 0} → List A → Option A
last_of xs = slice_get xs (length xs - 1)

-- what a value of tagOpt says of tags; nothing if it is another word
abbrev pub tags_said : Option (List ℕ) → Option Tags
tags_said None = None
tags_said (Some text) =
    cond (bytes_eq text (codes "--tags")) (Some tags.All)
    (cond (bytes_eq text (codes "--no-tags")) (Some tags.Left) None)

-- the last that is said of tags decides; else they are followed
abbrev pub configured_tags : List Setting → List ℕ → Tags
configured_tags settings remote =
    let said = filter_map (λ s. tags_said (value_in s)) (settings_of_remote remote (codes "tagopt") settings) in
    unwrap_or (last_of said) tags.Followed

-- the first of two that is there
abbrev pub or_else : {A : Type 0} → Option A → Option A → Option A
or_else (Some x) other = Some x
or_else None other = other

-- the setting that decides whether tags are pruned: the last of the remote, or else of all fetches
abbrev pub pruning_setting : List Setting → List ℕ → Option Setting
pruning_setting settings remote =
    or_else (last_of (settings_of_remote remote (codes "prunetags") settings))
    (last_of (settings_with (codes "fetch.prunetags") settings))

-- a boolean setting is true; it is without a value
abbrev pub IsOn : Setting → Type 0
IsOn s = MatchOption s.value ⊤ (λ text. Means text.now True)

-- it is false, or no boolean
abbrev pub IsOff : Setting → Type 0
IsOff s = MatchOption s.value ⊥ (λ text. Means text.now False ⊎ Means text.now Bad)

-- the setting, if there is one and it is true
abbrev pub IsIfOn : Option Setting → Option Setting → Type 0
IsIfOn None found = found ≡ None
IsIfOn (Some s) found = (IsOn s × (found ≡ Some s)) ⊎ (IsOff s × (found ≡ None))

-- the settings of a variable of the current branch
abbrev pub settings_of_branch : Repository → List ℕ → List Setting
settings_of_branch r variable = settings_with (joined_key (codes "branch") r.branch.now variable) r.settings.now

-- the current branch merges from a remote
abbrev pub MergesFrom : Repository → List ℕ → Type 0
MergesFrom r remote = value_of_last (settings_of_branch r (codes "remote")) ≡ Some remote

-- what it merges from it: each value of its variable merge, empty without a value
pub record AreMerges (r : Repository) (remote : List ℕ) (merges : List (List ℕ)) : Type 0 where
  pub own : MergesFrom r remote → merges ≡ map (λ s. unwrap_or (value_in s) []) (settings_of_branch r (codes "merge"))
  pub other : ¬ (MergesFrom r remote) → merges ≡ []
