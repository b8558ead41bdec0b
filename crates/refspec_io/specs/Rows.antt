-- How the mappings of a look-up are written: as aligned lines, fields ended by zero bytes, or JSON objects. This
-- project's own rule.
use Rattle.std.specs.Prelude.{◌≡◌, ℕ, List, [], ◌∷◌, ◌++◌, None, Some, map, option_map, unwrap_or, replicate, codes}
use Rattle.std.specs.List.{AllZip, flat_map, slice_get}
use Rattle.gix_refspec.specs.Matching.Mappings.{Source, name, id, Mapped}
use Rattle.gix_refspec.specs.Specs.Meaning.{printed}
use Rattle.gix_refspec.specs.Texts.ObjectId.{lower_of}
use Rattle.gix_refspec.specs.Specs.Reading.{Reading}
use Rattle.refspec_io.specs.declared.call.Form.{Form}
use Rattle.refspec_io.specs.declared.call.Form.TheVariants as form
use Rattle.refspec_json.specs.Objects.{line_of, mapping_object}
use Rattle.refspec_io.specs.Json.{json_text}
use Rattle.refspec_io.specs.Shown.{IsQuoted, KeepsResults, zero_ended}

-- the canonical texts of the specs, in order
abbrev pub AreSpecTexts : List Reading → List (List ℕ) → Type 0
AreSpecTexts g texts = AllZip (λ r text. printed r ≡ Some text) g texts

-- a name, or an id in lower-case hex
abbrev pub source_text : Source → List ℕ
source_text (name n) = n
source_text (id i) = lower_of i

-- a row of a look-up
pub record Row : Type 0 where
  pub destination : List ℕ
  pub source : List ℕ
  pub spec : List ℕ

-- the row of a mapping with the text of its spec; missing stands for a missing destination
abbrev pub mapped_row : List ℕ → List ℕ → Mapped → Row
mapped_row missing text m = record {
  destination = unwrap_or m.destination missing;
  source = source_text m.source;
  spec = text;
}

-- the same, given the texts of all specs
abbrev pub row_of : List ℕ → List (List ℕ) → Mapped → Row
row_of missing texts m = mapped_row missing (unwrap_or (slice_get texts m.spec) []) m

-- a field as shown, and two or more spaces
abbrev pub IsCell : List ℕ → List ℕ → Type 0
IsCell field cell = (shown : List ℕ) × (more : ℕ) × IsQuoted field shown
    × (cell ≡ shown ++ (32 ∷ 32 ∷ replicate more 32))

-- the results grew by the cell of a field
abbrev pub WritesCell : List ℕ → List ℕ → List ℕ → Type 0
WritesCell field old new = (cell : List ℕ) × IsCell field cell × (new ≡ old ++ cell)

-- a line: the destination and the source as cells, and the text of the spec as shown
pub record IsLine (r : Row) (line : List ℕ) : Type 0 where
  pub first : List ℕ
  pub second : List ℕ
  pub last : List ℕ
  pub is_first : IsCell r.destination first
  pub is_second : IsCell r.source second
  pub is_last : IsQuoted r.spec last
  pub is : line ≡ first ++ (second ++ (last ++ (10 ∷ [])))

-- the results grew by the line of a row
abbrev pub WritesLine : Row → List ℕ → List ℕ → Type 0
WritesLine r old new = (line : List ℕ) × IsLine r line × (new ≡ old ++ line)

-- a line for each row, in order
abbrev pub AreRowLines : List Row → List ℕ → Type 0
AreRowLines [] lines = lines ≡ []
AreRowLines (r ∷ rows) lines = (line : List ℕ) × (rest : List ℕ) × IsLine r line × AreRowLines rows rest
    × (lines ≡ line ++ rest)

-- the fields of a row, each ended by a zero byte
abbrev pub fields : Row → List ℕ
fields r = (zero_ended r.destination ++ zero_ended r.source) ++ zero_ended r.spec

-- the results grew by rows in lines
abbrev pub AddsLines : List Row → List ℕ → List ℕ → Type 0
AddsLines rows old new = (lines : List ℕ) × AreRowLines rows lines × (new ≡ old ++ lines)

-- the object of a mapping, as a line, with the text of its spec
abbrev pub mapped_object : List ℕ → Mapped → List ℕ
mapped_object text m = line_of (mapping_object (json_text (source_text m.source)) (option_map json_text m.destination)
    (json_text text) None)

-- the same, given the texts of all specs
abbrev pub object_of : List (List ℕ) → Mapped → List ℕ
object_of texts m = mapped_object (unwrap_or (slice_get texts m.spec) []) m

-- the results grew by mappings, in order; a missing destination is `FETCH_HEAD` in a line, an empty field in a record,
-- and null in an object
abbrev pub AddsMappings : Form → List (List ℕ) → List Mapped → List ℕ → List ℕ → Type 0
AddsMappings form.Lines texts mappings old new = AddsLines (map (row_of (codes "FETCH_HEAD") texts) mappings) old new
AddsMappings form.Zeros texts mappings old new = new ≡ old ++ flat_map fields (map (row_of [] texts) mappings)
AddsMappings form.Json texts mappings old new = new ≡ old ++ flat_map (object_of texts) mappings

-- the results grew by mappings; in JSON there may be messages before and after them
pub record AddsMappingsAmong (form : Form) (texts : List (List ℕ)) (mappings : List Mapped) (old new : List ℕ) :
    Type 0 where
  pub first : List ℕ
  pub last : List ℕ
  pub before : KeepsResults form old first
  pub reported : AddsMappings form texts mappings first last
  pub after : KeepsResults form last new
