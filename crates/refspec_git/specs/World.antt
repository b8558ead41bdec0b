-- What a call of `git refspec` may learn of the repository, and of where it runs. A command prints, and a folder
-- contains, what it does at some moment, so these are relations.
use Rattle.std.specs.Prelude.{ℕ, Bool, List, Option, ⊤}

pub record World : Type 1 where
  -- what is in the file with this name, which the output of a Git command has; none before the command ran
  pub printed : List ℕ → Option (List ℕ) → Type 0
  -- the names of the files of the folder with this path, in order
  pub listed : List ℕ → List (List ℕ) → Type 0
  -- whether a file or folder has this path
  pub found : List ℕ → Bool → Type 0
  -- whether messages go to a terminal
  pub watched : Bool → Type 0

-- nothing is known beforehand
abbrev pub anything : World
anything = record {
  printed = λ _ _. ⊤;
  listed = λ _ _. ⊤;
  found = λ _ _. ⊤;
  watched = λ _. ⊤;
}
