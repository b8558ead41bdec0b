-- How names are written, in lines and ended by zero bytes. This project's own rule. For JSON objects see `Json`.
use Rattle.std.specs.Prelude.{◌≡◌, ◌⊎◌, ℕ, ◌+◌, ◌/◌, ◌%◌, List, [], ◌∷◌, ◌++◌, Option, Some, None, cond, ◌==◌, ◌&&◌}
use Rattle.std.specs.Prelude.{◌||◌, nat_le}
use Rattle.std.specs.List.{flat_map}
use Rattle.refspec_io.specs.declared.call.Form.{Form}
use Rattle.refspec_io.specs.declared.call.Form.TheVariants as form
use Rattle.refspec_io.specs.declared.report.Report.{Report}

-- the letter of a byte whose escape has one, as in C: `\a`, `\b`, `\t`, `\n`, `\v`, `\f`, `\r`, a quote and a backslash
abbrev pub escape_letter : ℕ → Option ℕ
escape_letter b =
    cond (b == 7) (Some 97)
    (cond (b == 8) (Some 98) (cond (b == 9) (Some 116) (cond (b == 10) (Some 110) (cond (b == 11) (Some 118)
    (cond (b == 12) (Some 102) (cond (b == 13) (Some 114) (cond ((b == 34) || (b == 92)) (Some b) None)))))))

-- a byte without a letter: as it is if it is printable ASCII, else a backslash and three octal digits
abbrev pub plain_or_octal : ℕ → List ℕ
plain_or_octal b = cond (nat_le 32 b && nat_le b 126) (b ∷ [])
    (92 ∷ (48 + b / 64) ∷ (48 + b / 8 % 8) ∷ (48 + b % 8) ∷ [])

-- an escape with a letter, or without one the byte itself or in octal
abbrev pub with_letter : ℕ → Option ℕ → List ℕ
with_letter b None = plain_or_octal b
with_letter b (Some letter) = 92 ∷ letter ∷ []

-- a byte within quotes, as Git quotes paths (git-config(1), core.quotePath)
abbrev pub escaped : ℕ → List ℕ
escaped b = with_letter b (escape_letter b)

-- a name in double quotes
abbrev pub in_quotes : List ℕ → List ℕ
in_quotes name = 34 ∷ (flat_map escaped name ++ (34 ∷ []))

-- a name as shown: as it is, or in double quotes with escapes
abbrev pub IsQuoted : List ℕ → List ℕ → Type 0
IsQuoted name shown = (shown ≡ name) ⊎ (shown ≡ in_quotes name)

-- a line for each name: the bytes before it, the name as shown, and a newline
abbrev pub AreLines : List ℕ → List (List ℕ) → List ℕ → Type 0
AreLines before [] lines = lines ≡ []
AreLines before (name ∷ names) lines =
    (shown : List ℕ) × (rest : List ℕ) × IsQuoted name shown × AreLines before names rest
    × (lines ≡ before ++ (shown ++ (10 ∷ rest)))

-- a name and the zero byte that ends it
abbrev pub zero_ended : List ℕ → List ℕ
zero_ended name = name ++ (0 ∷ [])

-- the results grew by the names, each in the given form; in JSON they stayed, since a name alone isn't an object
abbrev pub AddsNames : Form → List ℕ → List (List ℕ) → List ℕ → List ℕ → Type 0
AddsNames form.Lines before names old new = (lines : List ℕ) × AreLines before names lines × (new ≡ old ++ lines)
AddsNames form.Zeros before names old new = new ≡ old ++ flat_map zero_ended names
AddsNames form.Json before names old new = new ≡ old

-- bytes were appended
abbrev pub Grows : List ℕ → List ℕ → Type 0
Grows old new = (more : List ℕ) × (new ≡ old ++ more)

-- the results stayed as they were; in JSON, which has messages among them, bytes may have been appended
abbrev pub KeepsResults : Form → List ℕ → List ℕ → Type 0
KeepsResults form.Json old new = Grows old new
KeepsResults _ old new = new ≡ old

-- the report kept its form and, in that sense, its results
pub record KeepsReport (old new : Report) : Type 0 where
  pub form : new.form ≡ old.form
  pub kept : KeepsResults old.form old.results.items new.results.items

-- the name as shown was appended
abbrev pub WritesQuoted : List ℕ → List ℕ → List ℕ → Type 0
WritesQuoted name old new = (shown : List ℕ) × IsQuoted name shown × (new ≡ old ++ shown)
