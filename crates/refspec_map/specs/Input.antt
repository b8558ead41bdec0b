-- An input that is read to its end, and its lines. This project's own rule: a newline ends a line, and
-- every other byte, even a carriage return, belongs to it.
use Rattle.std.specs.Prelude.{◌≡◌, ◌≢◌, ◌<◌, ◌≤◌, ◌⊎◌, ℕ, Bool, List, [], ◌∷◌, ◌++◌, Option, length, MatchBool, ⊤}
use Rattle.std.specs.Io.KnownBytes.{Consumes, IsAtEnd}
use Rattle.gix_refspec.specs.Texts.Words.{Lacks}
use Rattle.refspec_map.specs.declared.fault.Fault.{Fault}
use Rattle.refspec_map.specs.declared.fault.Fault.TheVariants as fault

-- the maximum length of an input, in bytes
abbrev pub input_limit : ℕ
input_limit = 1048576

-- one read took some bytes and appended them to the old input, or found the end
pub record ReadsSome (more : Bool) (reader_old reader_new : Option (List ℕ)) (old new : List ℕ) : Type 0 where
  pub came : List ℕ
  pub taken : Consumes reader_old reader_new came
  pub append : new ≡ old ++ came
  pub tells : MatchBool more (came ≢ []) ((came ≡ []) × IsAtEnd reader_new)

-- the input was read from old to its end, and is within the limit
pub record ReadsToEnd (old new : Option (List ℕ)) (input : List ℕ) : Type 0 where
  pub taken : Consumes old new input
  pub ended : IsAtEnd new
  pub within : length input ≤ input_limit

-- more bytes than the limit were read
abbrev pub IsTooLong : Option (List ℕ) → Option (List ℕ) → Type 0
IsTooLong old new = (input : List ℕ) × Consumes old new input × (input_limit < length input)

-- why an input isn't read to its end
abbrev pub IsReadFault : Option (List ℕ) → Option (List ℕ) → Fault → Type 0
IsReadFault old new fault.TooLong = IsTooLong old new
IsReadFault old new fault.Read = ⊤
IsReadFault old new fault.Memory = ⊤
IsReadFault old new _ = ⊥

abbrev pub newline : ℕ
newline = 10

-- the lines of the input, without the newlines that end them; the last may lack its newline if it isn't empty
abbrev pub AreLines : List (List ℕ) → List ℕ → Type 0
AreLines [] input = input ≡ []
AreLines (line ∷ lines) input =
    Lacks newline line
    × (((rest : List ℕ) × (input ≡ line ++ (newline ∷ rest)) × AreLines lines rest)
    ⊎ ((line ≢ []) × (lines ≡ []) × (input ≡ line)))

-- the line is the first of the text, and the rest is what follows its newline
abbrev pub IsFirstLine : List ℕ → List ℕ → List ℕ → Type 0
IsFirstLine text line rest = Lacks newline line × ((text ≡ line ++ (newline ∷ rest)) ⊎ ((text ≡ line) × (rest ≡ [])))
