-- In how many bytes texts overlap. Only private functions use these definitions.
use Rattle.std.specs.Prelude.{◌<◌, ◌≤◌, ℕ, zero, suc, List, [], ◌++◌, length, take}
use Rattle.std.specs.List.{AllByRecursion, Contains}
use Rattle.gix_refspec_text.specs.Texts.Words.{EndsWith}

-- the text suffix begins with so many bytes that prefix ends with
pub record IsOverlap (prefix suffix : List ℕ) (shared : ℕ) : Type 0 where
  pub some : 0 < shared
  pub within : shared ≤ length suffix
  pub ends : EndsWith (take shared suffix) prefix

-- the list has these numbers, up to most
pub record AreOverlaps (prefix suffix : List ℕ) (most : ℕ) (list : List ℕ) : Type 0 where
  pub each : AllByRecursion (IsOverlap prefix suffix) list
  pub all : (k : ℕ) → k ≤ most → IsOverlap prefix suffix k → Contains list k

-- the word i times
abbrev pub power : List ℕ → ℕ → List ℕ
power v zero = []
power v (suc i) = v ++ power v i
