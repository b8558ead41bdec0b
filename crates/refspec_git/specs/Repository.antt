-- The repository of a call, by what Git printed of it and by its folders: git-config(1), gitrepository-layout(5) and
-- the section on remotes of git-fetch(1).
use Rattle.std.specs.Prelude.{◌≡◌, ◌≢◌, ◌⊎◌, ℕ, Bool, false, List, [], ◌∷◌, ◌++◌, None, Some, codes, map}
use Rattle.std.specs.Str.{IsUtf8}
use Rattle.std.specs.String.{string_bytes}
use Rattle.gix_refspec_text.specs.Texts.Words.{BeginsWith}
use Rattle.refspec_io.specs.declared.settings.Setting.{Setting}
use Rattle.refspec_io.specs.Settings.{AreSettings}
use Rattle.refspec_request.specs.declared.arguments.Request.{Request}
use Rattle.refspec_request.specs.declared.choice.Repository.{Repository}
use Rattle.refspec_request.specs.declared.remotes.OldRemote.{OldRemote}
use Rattle.refspec_request.specs.Remotes.{IsIgnored}
use Rattle.refspec_git.specs.World.{World}

-- what Git printed of a repository: its folder, its configuration, and the ref that HEAD points to
pub record IsPrinted (w : World) (folder config head : List ℕ) : Type 0 where
  pub common : w.printed (codes "folder") (Some folder)
  pub settings : w.printed (codes "config") (Some config)
  pub target : w.printed (codes "head") (Some head)

-- one of these commands hasn't run
abbrev pub LacksOutput : World → Type 0
LacksOutput w =
    w.printed (codes "folder") None ⊎ (w.printed (codes "config") None ⊎ w.printed (codes "head") None)

-- the settings that count, in order: all but those that Git ignores
abbrev pub AreCounted : List Setting → List Setting → Type 0
AreCounted [] counted = counted ≡ []
AreCounted (s ∷ all) counted =
    (IsIgnored s × AreCounted all counted)
    ⊎ (¬ (IsIgnored s) × (rest : List Setting) × AreCounted all rest × (counted ≡ s ∷ rest))

-- an output is a line and its newline, which it may lack
abbrev pub IsLine : List ℕ → List ℕ → Type 0
IsLine output line =
    (output ≡ line ++ (10 ∷ [])) ⊎ ((line ≡ output) × ((other : List ℕ) → ¬ (output ≡ other ++ (10 ∷ []))))

-- the branch that HEAD points to; empty if it points elsewhere
abbrev pub IsBranch : List ℕ → List ℕ → Type 0
IsBranch target branch = (target ≡ codes "refs/heads/" ++ branch)
    ⊎ (¬ (BeginsWith (codes "refs/heads/") target) × (branch ≡ []))

-- whether the first argument is an existing path, which is text and not empty
abbrev pub IsPath : World → List (List ℕ) → Bool → Type 0
IsPath w [] is = is ≡ false
IsPath w (first ∷ rest) is =
    ((first ≢ []) × IsUtf8 first × w.found first is)
    ⊎ (((first ≡ []) ⊎ ¬ (IsUtf8 first)) × (is ≡ false))

-- the remotes of files with these names in a folder, in order
abbrev pub AreFiles : List ℕ → List (List ℕ) → List OldRemote → Type 0
AreFiles folder [] old = old ≡ []
AreFiles folder (n ∷ names) old = (o : OldRemote) × (rest : List OldRemote) × (o.name.items ≡ n)
    × (string_bytes o.folder ≡ folder) × AreFiles folder names rest × (old ≡ o ∷ rest)

-- the remotes that have files in a folder
abbrev pub AreFilesIn : World → List ℕ → List OldRemote → Type 0
AreFilesIn w folder old = (names : List (List ℕ)) × w.listed folder names × AreFiles folder names old

-- the remotes that have files of their own, in the folders `remotes` and `branches` of a repository; none if the path
-- of its folder isn't UTF-8
abbrev pub AreOldRemotes : World → List ℕ → List OldRemote → Type 0
AreOldRemotes w folder old =
    (IsUtf8 folder × (first : List OldRemote) × (second : List OldRemote)
    × AreFilesIn w (folder ++ codes "/remotes") first × AreFilesIn w (folder ++ codes "/branches") second
    × (old ≡ first ++ second))
    ⊎ (¬ (IsUtf8 folder) × (old ≡ []))

-- a repository is as Git printed, for a request
pub record IsRepository (w : World) (request : Request) (folder config head : List ℕ) (r : Repository) : Type 0 where
  pub all : List Setting
  pub path : List ℕ
  pub target : List ℕ
  pub read : AreSettings config all
  pub counted : AreCounted all r.settings.now
  pub in_folder : IsLine folder path
  pub files : AreOldRemotes w path r.old.now
  pub in_head : IsLine head target
  pub on_branch : IsBranch target r.branch.now
  pub argument : IsPath w (map (λ a. a.now) request.arguments.items) r.is_path
