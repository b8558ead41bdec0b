-- How the updates of a plan are written: as aligned lines, fields ended by zero bytes, or JSON objects. This project's
-- own rule.
use Rattle.std.specs.Prelude.{◌≡◌, ℕ, List, [], ◌∷◌, ◌++◌, Some, option_map, unwrap_or, codes}
use Rattle.gix_refspec_plan.specs.declared.Origin.{Origin}
use Rattle.gix_refspec_plan.specs.Matching.Plan.{Planned}
use Rattle.refspec_json.specs.Objects.{line_of, mapping_object}
use Rattle.refspec_io.specs.Json.{json_text}
use Rattle.refspec_io.specs.Rows.{IsCell, source_text}
use Rattle.refspec_io.specs.Shown.{IsQuoted, zero_ended}
use Rattle.refspec_fetch.specs.declared.origins.SpecTexts.{SpecTexts}
use Rattle.refspec_fetch.specs.Origins.{note_of, origin_name, text_of}

-- the end of a line: the text of a spec as shown, and what is said behind it
abbrev pub IsHeading : List ℕ → Origin → List ℕ → Type 0
IsHeading text origin line = (shown : List ℕ) × IsQuoted text shown × (line ≡ shown ++ (note_of origin ++ (10 ∷ [])))

abbrev pub WritesHeading : List ℕ → Origin → List ℕ → List ℕ → Type 0
WritesHeading text origin old new = (line : List ℕ) × IsHeading text origin line × (new ≡ old ++ line)

-- a line: the source and the destination as cells, FETCH_HEAD for a missing one, and the text of the spec
pub record IsUpdateLine (text : List ℕ) (p : Planned) (line : List ℕ) : Type 0 where
  pub first : List ℕ
  pub second : List ℕ
  pub last : List ℕ
  pub is_first : IsCell (source_text p.source) first
  pub is_second : IsCell (unwrap_or p.destination (codes "FETCH_HEAD")) second
  pub is_last : IsHeading text p.origin last
  pub is : line ≡ first ++ (second ++ last)

abbrev pub WritesUpdateLine : List ℕ → Planned → List ℕ → List ℕ → Type 0
WritesUpdateLine text p old new = (line : List ℕ) × IsUpdateLine text p line × (new ≡ old ++ line)

-- a line for each update, in order
abbrev pub AreUpdateLines : SpecTexts → List Planned → List ℕ → Type 0
AreUpdateLines texts [] lines = lines ≡ []
AreUpdateLines texts (p ∷ ps) lines =
    (line : List ℕ) × (rest : List ℕ) × IsUpdateLine (text_of texts p.origin) p line × AreUpdateLines texts ps rest
    × (lines ≡ line ++ rest)

abbrev pub AddsUpdateLines : SpecTexts → List Planned → List ℕ → List ℕ → Type 0
AddsUpdateLines texts ps old new = (lines : List ℕ) × AreUpdateLines texts ps lines × (new ≡ old ++ lines)

-- the four fields of an update, each ended by a zero byte; a missing destination is empty
abbrev pub fields_with : List ℕ → Planned → List ℕ
fields_with text p = ((zero_ended (source_text p.source) ++ zero_ended (unwrap_or p.destination [])) ++ zero_ended text)
    ++ zero_ended (origin_name p.origin)

abbrev pub update_fields : SpecTexts → Planned → List ℕ
update_fields texts p = fields_with (text_of texts p.origin) p

-- the object of an update, as a line
abbrev pub object_with : List ℕ → Planned → List ℕ
object_with text p = line_of (mapping_object (json_text (source_text p.source)) (option_map json_text p.destination)
    (json_text text) (Some (origin_name p.origin)))

abbrev pub update_object : SpecTexts → Planned → List ℕ
update_object texts p = object_with (text_of texts p.origin) p
