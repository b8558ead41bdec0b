-- An input that is read to its end, and its records. This project's own rule: one byte ends a record, and every other
-- byte belongs to it.
use Rattle.std.specs.Prelude.{◌≡◌, ◌≢◌, ◌⊎◌, ℕ, List, [], ◌∷◌, ◌++◌, Option}
use Rattle.std.specs.Io.KnownBytes.{Consumes, IsAtEnd}
use Rattle.gix_refspec.specs.Texts.Words.{Lacks}
use Rattle.refspec_io.specs.declared.call.Terminator.{Terminator}
use Rattle.refspec_io.specs.declared.call.Terminator.TheVariants as ends

-- the byte that ends a record
abbrev pub end_byte : Terminator → ℕ
end_byte ends.Newline = 10
end_byte _ = 0

-- the input was read from old to its end
pub record ReadsToEnd (old new : Option (List ℕ)) (input : List ℕ) : Type 0 where
  pub taken : Consumes old new input
  pub ended : IsAtEnd new

-- no record contains the byte, and the byte follows each; it may be missing after the last record, if that isn't empty
abbrev pub AreRecords : ℕ → List (List ℕ) → List ℕ → Type 0
AreRecords end [] input = input ≡ []
AreRecords end (record_ ∷ records) input =
    Lacks end record_
    × (((rest : List ℕ) × (input ≡ record_ ++ (end ∷ rest)) × AreRecords end records rest)
    ⊎ ((record_ ≢ []) × (records ≡ []) × (input ≡ record_)))

-- first is the first record of the text, and rest is what follows its end byte
abbrev pub IsFirstRecord : ℕ → List ℕ → List ℕ → List ℕ → Type 0
IsFirstRecord end text first rest = Lacks end first × ((text ≡ first ++ (end ∷ rest)) ⊎ ((text ≡ first) × (rest ≡ [])))
