-- Texts that are one after the other in a buffer, and structs that tell where they are.
use Rattle.std.specs.Prelude.{◌≡◌, ◌+◌, ℕ, List, [], ◌∷◌, length, map}
use Rattle.std.specs.List.{flat_map}

-- what describes things whose texts are one after the other from this offset of the buffer on
abbrev pub described_from : {X D : Type 0} → (X → List ℕ) → (ℕ → X → D) → ℕ → List X → List D
described_from {X} {D} text describe at [] = []
described_from {X} {D} text describe at (x ∷ xs) =
    describe at x ∷ described_from text describe (at + length (text x)) xs

-- the structs, by what is seen of them, and the bytes are those of the things
pub record AreLaidOut {X S D : Type 0} (text : X → List ℕ) (describe : ℕ → X → D) (see : S → D) (xs : List X)
    (structs : List S) (bytes : List ℕ) : Type 0 where
  pub described : map see structs ≡ described_from text describe 0 xs
  pub texts : bytes ≡ flat_map text xs
