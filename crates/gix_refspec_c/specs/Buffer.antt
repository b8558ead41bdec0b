-- What a call writes to a buffer of its caller: bytes, or structs.
use Rattle.std.specs.Prelude.{◌≡◌, ◌<◌, ◌≤◌, ℕ, List, ◌++◌, length, drop}
use Rattle.gix_refspec_c.specs.declared.failure.Failure.{Failure}
use Rattle.gix_refspec_c.specs.declared.failure.Failure.TheVariants as failure

-- the buffer begins with the answer, and is unchanged after it; the length is that of the answer
pub record IsWrittenTo {X : Type 0} (answer old new : List X) (len : ℕ) : Type 0 where
  pub fits : length answer ≤ length old
  pub write : new ≡ answer ++ drop (length answer) old
  pub describes : len ≡ length answer

-- the answer is longer than the buffer, which is unchanged; the length is that of the answer
pub record IsTooSmall {X : Type 0} (answer old new : List X) (len : ℕ) : Type 0 where
  pub long : length old < length answer
  pub same : new ≡ old
  pub describes : len ≡ length answer

-- why the buffer doesn't have an answer: it is too small for one of which Is holds; or Why holds of the failure, and
-- buffer and length are unchanged
abbrev pub WritesNothing : {X : Type 0} → (List X → Type 0) → (Failure → Type 0) → List X → List X → ℕ → ℕ → Failure
    → Type 0
WritesNothing {X} Is Why old new before after failure.TooSmall = (answer : List X) × Is answer
    × IsTooSmall answer old new after
WritesNothing {X} Is Why old new before after f = Why f × (new ≡ old) × (after ≡ before)
