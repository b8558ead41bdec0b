-- The wrong bytes of a refused text, in messages and in objects. This project's own rule; which bytes these are is that
-- of the library.
use Rattle.std.specs.Prelude.{◌≡◌, ◌⊎◌, ℕ, ◌+◌, List, [], ◌++◌, codes, decimal, drop, take}
use Rattle.gix_refspec_text.specs.declared.parsing.Operation.{Operation}
use Rattle.gix_refspec_text.specs.declared.parsing.Side.{Side}
use Rattle.gix_refspec_text.specs.declared.parsing.Side.TheVariants.{Source, Destination}
use Rattle.gix_refspec_text.specs.declared.parsing.Span.{Span}
use Rattle.gix_refspec.specs.Specs.Span.{HasNoSpan, IsSpan}
use Rattle.refspec_io.specs.declared.blame.Blame.{Blame}
use Rattle.refspec_io.specs.declared.texts.Text.{Text}
use Rattle.refspec_io.specs.Shown.{in_quotes}

-- the name of a side
abbrev pub side_name : Side → List ℕ
side_name Source = codes "source"
side_name Destination = codes "destination"

-- the bytes of a text in a span
abbrev pub bytes_in : List ℕ → Span → List ℕ
bytes_in text span = take span.len (drop span.start text)

-- the number of the first byte in a span, counted from 1
abbrev pub number_in : Span → ℕ
number_in span = span.start + 1

-- Says holds of the wrong bytes of the text for the operation; or no bytes are wrong, and Else holds
abbrev pub OfWrongBytes : Operation → List ℕ → (Span → Type 0) → Type 0 → Type 0
OfWrongBytes op text Says Else = ((span : Span) × IsSpan op text span × Says span) ⊎ (HasNoSpan op text × Else)

-- the side, the bytes and the number of the first are those of the wrong bytes of the text
pub record IsBlame (t : Text) (b : Blame) : Type 0 where
  pub span : Span
  pub is_span : IsSpan t.operation t.bytes.now span
  pub side : b.side.now ≡ side_name span.side
  pub part : b.part.now ≡ bytes_in t.bytes.now span
  pub number : b.at ≡ number_in span

-- the line on wrong bytes by the name of their side, as `    The source has ".." at byte 2.`
abbrev pub line_on : (side part : List ℕ) → ℕ → List ℕ
line_on side part number =
    codes "    The "
    ++ (side ++ (codes " has " ++ (in_quotes part ++ (codes " at byte " ++ (decimal number ++ codes ".\n")))))

abbrev pub blame_line : Blame → List ℕ
blame_line b = line_on b.side.now b.part.now b.at

abbrev pub wrong_line : List ℕ → Span → List ℕ
wrong_line text span = line_on (side_name span.side) (bytes_in text span) (number_in span)

-- the line on the wrong bytes of a text for the operation, if there are any
abbrev pub IsWrongLine : Operation → List ℕ → List ℕ → Type 0
IsWrongLine op text line = OfWrongBytes op text (λ span. line ≡ wrong_line text span) (line ≡ [])

-- bytes grew by that line
abbrev pub WritesWrong : Text → List ℕ → List ℕ → Type 0
WritesWrong t old new = (line : List ℕ) × IsWrongLine t.operation t.bytes.now line × (new ≡ old ++ line)

-- bytes grew by that line, and by advice, which is left open
abbrev pub WritesDetails : Text → List ℕ → List ℕ → Type 0
WritesDetails t old new =
    (line : List ℕ) × (advice : List ℕ) × IsWrongLine t.operation t.bytes.now line × (new ≡ old ++ (line ++ advice))
