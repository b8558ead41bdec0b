-- The arguments of a call of `git refspec`: whether one is a spec or, by git-fetch(1) under GIT URLS, a repository.
use Rattle.std.specs.Prelude.{◌≡◌, ◌⊎◌, ℕ, List, [], ◌∷◌, ◌++◌, codes}
use Rattle.gix_refspec_text.specs.Texts.Words.{BeginsWith, ContainsText, EndsWith, Lacks}
use Rattle.refspec_request.specs.declared.choice.Looks.{Looks}
use Rattle.refspec_request.specs.declared.choice.Looks.TheVariants as looks

-- arguments that begin as only specs do: the empty one, and those that begin with `+`, `^` or `refs/`
abbrev pub BeginsAsSpec : List ℕ → Type 0
BeginsAsSpec argument =
    (argument ≡ []) ⊎ BeginsWith (codes "+") argument ⊎ BeginsWith (codes "^") argument
    ⊎ BeginsWith (codes "refs/") argument

-- no URL or path is such an argument, or contains a star
abbrev pub IsCertainlySpec : List ℕ → Type 0
IsCertainlySpec argument = BeginsAsSpec argument ⊎ ContainsText (codes "*") argument

-- arguments that begin as only paths do: `.`, `..`, and those that begin with `/`, `./` or `../`
abbrev pub BeginsAsPath : List ℕ → Type 0
BeginsAsPath argument = (argument ≡ codes ".") ⊎ (argument ≡ codes "..")
    ⊎ BeginsWith (codes "/") argument ⊎ BeginsWith (codes "./") argument ⊎ BeginsWith (codes "../") argument

-- what precedes and follows the first colon is a scheme and a host, as in `https://host`, a helper, as in
-- `ext::command`,
-- or a user and a host, as in `me@host:path`
pub record HasHost (argument : List ℕ) : Type 0 where
  pub before : List ℕ
  pub after : List ℕ
  pub parts : argument ≡ before ++ (58 ∷ after)
  pub first : Lacks 58 before
  pub host : BeginsWith (codes "//") after ⊎ BeginsWith (codes ":") after ⊎ ContainsText (codes "@") before

abbrev pub IsUrl : List ℕ → Type 0
IsUrl argument = BeginsAsPath argument ⊎ HasHost argument

-- arguments with the destination of a spec behind a colon: one below refs/, or an empty one
abbrev pub EndsAsSpec : List ℕ → Type 0
EndsAsSpec argument = ContainsText (codes ":refs/") argument ⊎ EndsWith (codes ":") argument

-- what an argument looks like, whatever remotes there are. This project's own rule
abbrev pub LooksLike : List ℕ → Looks → Type 0
LooksLike argument looks.Spec = IsCertainlySpec argument ⊎ (¬ (IsUrl argument) × EndsAsSpec argument)
LooksLike argument looks.Url = ¬ (IsCertainlySpec argument) × IsUrl argument
LooksLike argument looks.Either =
    ¬ (IsCertainlySpec argument) × ¬ (IsUrl argument) × ¬ (EndsAsSpec argument) × ContainsText (codes ":") argument
LooksLike argument looks.Plain = ¬ (IsCertainlySpec argument) × ¬ (IsUrl argument) × Lacks 58 argument
