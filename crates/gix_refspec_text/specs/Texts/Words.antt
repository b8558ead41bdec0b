-- Texts are lists of bytes. Which words they contain, and where.
use Rattle.std.specs.Prelude.{◌≡◌, ◌≢◌, ℕ, List, ◌++◌}
use Rattle.std.specs.List.{AllByRecursion, join_with_byte}

-- x doesn't contain the byte b
abbrev pub Lacks : ℕ → List ℕ → Type 0
Lacks b x = AllByRecursion (λ c. c ≢ b) x

-- x contains the word w
pub record ContainsText (w x : List ℕ) : Type 0 where
  pub before : List ℕ
  pub after : List ℕ
  pub here : x ≡ before ++ (w ++ after)

-- x begins with the word w
pub record BeginsWith (w x : List ℕ) : Type 0 where
  pub after : List ℕ
  pub here : x ≡ w ++ after

-- x ends with the word w
pub record EndsWith (w x : List ℕ) : Type 0 where
  pub before : List ℕ
  pub here : x ≡ before ++ w

-- the parts, joined by the byte b, are x, and none of them contains b. The empty text is both no part and one empty
-- part
pub record ArePartsAt (b : ℕ) (parts : List (List ℕ)) (x : List ℕ) : Type 0 where
  pub joined : join_with_byte b parts ≡ x
  pub whole : AllByRecursion (Lacks b) parts
