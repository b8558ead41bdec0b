-- How bytes become JSON strings, and the objects of texts, in the terms of `refspec_json`. This project's own rule.
use Rattle.std.specs.Prelude.{◌≡◌, ℕ, Bool, false, not, cond, ◌||◌, ◌==◌, List, [], ◌∷◌, ◌++◌, codes, Option, None}
use Rattle.std.specs.Prelude.{Some}
use Rattle.std.specs.Str.{is_utf8}
use Rattle.refspec_json.specs.Objects.{line_of, refused_object, spec_object}
use Rattle.gix_refspec_text.specs.declared.parsing.Error.{Error}
use Rattle.gix_refspec_text.specs.declared.parsing.Operation.{Operation}
use Rattle.gix_refspec_text.specs.declared.parsing.Operation.TheVariants as operation
use Rattle.gix_refspec_text.specs.declared.parsing.Span.{Span}
use Rattle.gix_refspec_text.specs.Specs.Explained.{explained, reason_name}
use Rattle.refspec_io.specs.declared.call.Form.{Form}
use Rattle.refspec_io.specs.declared.call.Form.TheVariants as form
use Rattle.refspec_io.specs.declared.texts.Text.{Text}
use Rattle.refspec_io.specs.Messages.{IsLocation}
use Rattle.refspec_io.specs.Shown.{in_quotes}
use Rattle.refspec_io.specs.Wrong.{OfWrongBytes, bytes_in, number_in, side_name}

-- whether bytes begin with a double quote
abbrev pub begins_quoted : List ℕ → Bool
begins_quoted [] = false
begins_quoted (b ∷ bytes) = b == 34

-- bytes as a JSON string: as they are, or in double quotes with escapes if they begin with a quote or aren't UTF-8
abbrev pub json_text : List ℕ → List ℕ
json_text bytes = cond (begins_quoted bytes || not (is_utf8 bytes)) (in_quotes bytes) bytes

-- the name of an operation
abbrev pub operation_name : Operation → List ℕ
operation_name operation.Fetch = codes "fetch"
operation_name operation.Push = codes "push"

-- the side, the part and the index of an object show the bytes of a text in a span
abbrev pub ShowsSpan : List ℕ → Option (List ℕ) → Option (List ℕ) → Option ℕ → Span → Type 0
ShowsSpan text side part index span =
    (side ≡ Some (side_name span.side)) × (part ≡ Some (json_text (bytes_in text span)))
    × (index ≡ Some (number_in span))

-- they show the wrong bytes of the text for the operation; if no bytes are wrong, all are missing
abbrev pub ShowsWrong : Operation → List ℕ → Option (List ℕ) → Option (List ℕ) → Option ℕ → Type 0
ShowsWrong op text side part index =
    OfWrongBytes op text (ShowsSpan text side part index) ((side ≡ None) × (part ≡ None) × (index ≡ None))

-- the object of a refusal, as a line: the location of the text, its operation, the text, the reason with its sentence,
-- and the wrong bytes; the advice is left open
pub record IsRefusedLine (t : Text) (e : Error) (line : List ℕ) : Type 0 where
  pub location : List ℕ
  pub side : Option (List ℕ)
  pub part : Option (List ℕ)
  pub index : Option ℕ
  pub advice : List ℕ
  pub is_location : IsLocation form.Json t.location location
  pub is_wrong : ShowsWrong t.operation t.bytes.now side part index
  pub is : line ≡ line_of (refused_object location (operation_name t.operation) (json_text t.bytes.now) (reason_name e)
      (explained e) side part index advice)

-- bytes grew by that line
abbrev pub WritesRefused : Text → Error → List ℕ → List ℕ → Type 0
WritesRefused t e old new = (line : List ℕ) × IsRefusedLine t e line × (new ≡ old ++ line)

-- in JSON the results grew by that; else they stayed as they were
abbrev pub AddsRefusal : Form → Text → Error → List ℕ → List ℕ → Type 0
AddsRefusal form.Json t e old new = WritesRefused t e old new
AddsRefusal _ t e old new = new ≡ old

-- what Reports says of each element, in order
abbrev pub AreInOrder : {X : Type 0} → (X → List ℕ → Type 0) → List X → List ℕ → Type 0
AreInOrder Reports [] lines = lines ≡ []
AreInOrder Reports (x ∷ xs) lines = (one : List ℕ) × (rest : List ℕ) × Reports x one × AreInOrder Reports xs rest
    × (lines ≡ one ++ rest)

-- in JSON the results grew by that; else they stayed as they were
abbrev pub AddsObjects : {X : Type 0} → Form → (X → List ℕ → Type 0) → List X → List ℕ → List ℕ → Type 0
AddsObjects form.Json Reports xs old new = (lines : List ℕ) × AreInOrder Reports xs lines × (new ≡ old ++ lines)
AddsObjects _ Reports xs old new = new ≡ old

-- the object of a spec, as a line: the location of its text, its operation, the text, its canonical text, its meaning
-- and the location of an earlier duplicate
pub record IsSpecLine (kind : List ℕ) (t : Text) (canonical : List ℕ) (meaning same_as : Option (List ℕ))
    (line : List ℕ) : Type 0 where
  pub location : List ℕ
  pub is_location : IsLocation form.Json t.location location
  pub is : line ≡ line_of (spec_object kind location (operation_name t.operation) (json_text t.bytes.now)
      (json_text canonical) meaning same_as)

-- bytes grew by that line
abbrev pub WritesSpec : List ℕ → Text → List ℕ → Option (List ℕ) → Option (List ℕ) → List ℕ → List ℕ → Type 0
WritesSpec kind t canonical meaning same_as old new = (line : List ℕ) × IsSpecLine kind t canonical meaning same_as line
    × (new ≡ old ++ line)
