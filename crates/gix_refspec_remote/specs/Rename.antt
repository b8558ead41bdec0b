-- What `git remote rename` makes of the fetch values of a remote. git-remote(1) says that the configuration is
-- updated, and not how.
use Rattle.std.specs.Prelude.{◌≡◌, ◌≤◌, ℕ, List, ◌++◌, codes, length}

-- what a value contains that stores refs in the folder of the remote
abbrev pub stored_below : List ℕ → List ℕ
stored_below remote = codes ":refs/remotes/" ++ (remote ++ codes "/")

-- the text is the value with the new remote in place of the old one, where that first stores refs
pub record IsRenamed (value old new text : List ℕ) : Type 0 where
  pub before : List ℕ
  pub after : List ℕ
  pub here : value ≡ before ++ (stored_below old ++ after)
  pub first : (b a : List ℕ) → value ≡ b ++ (stored_below old ++ a) → length before ≤ length b
  pub renamed : text ≡ before ++ (stored_below new ++ after)
