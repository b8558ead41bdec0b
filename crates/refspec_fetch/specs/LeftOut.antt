-- How the updates that a plan leaves out or overrules, or that are in a directory conflict, are reported in JSON. This
-- project's own rule.
use Rattle.std.specs.Prelude.{◌≡◌, ℕ, List, option_map, codes}
use Rattle.gix_refspec.specs.declared.match_group.ref_names.InvalidSide.{InvalidSide}
use Rattle.gix_refspec.specs.declared.match_group.ref_names.InvalidSide.TheVariants as side
use Rattle.gix_refspec_plan.specs.Matching.Plan.{Planned}
use Rattle.refspec_json.specs.Objects.{directory_conflict_object, left_out_object, line_of, overruled_object}
use Rattle.refspec_io.specs.Json.{json_text}
use Rattle.refspec_io.specs.Rows.{source_text}
use Rattle.refspec_fetch.specs.declared.origins.SpecTexts.{SpecTexts}
use Rattle.refspec_fetch.specs.Origins.{origin_name, text_of}
use Rattle.refspec_fetch.specs.Verdicts.{Unwritable}

-- the name of the side whose ref name is invalid
abbrev pub side_name : InvalidSide → List ℕ
side_name side.Source = codes "source"
side_name side.Destination = codes "destination"
side_name side.Both = codes "both"

-- the object of a left out update, as a line, with the text of its spec, the invalid side, and a sentence on it
abbrev pub IsLeftOutLine : List ℕ → Unwritable → List ℕ → Type 0
IsLeftOutLine text out line =
    (message : List ℕ)
    × (line ≡ line_of (left_out_object (json_text (source_text out.update.source))
    (option_map json_text out.update.destination) (json_text text) (origin_name out.update.origin)
    (side_name out.side) message))

-- the same, given the texts of all specs
abbrev pub IsLeftOutOf : SpecTexts → Unwritable → List ℕ → Type 0
IsLeftOutOf texts out line = IsLeftOutLine (text_of texts out.update.origin) out line

-- the object of an overruled update, as a line, with the text of its spec and a sentence on it
abbrev pub IsOverruledLine : List ℕ → Planned → List ℕ → Type 0
IsOverruledLine text p line =
    (message : List ℕ)
    × (line ≡ line_of (overruled_object (json_text (source_text p.source)) (option_map json_text p.destination)
    (json_text text) (origin_name p.origin) message))

-- the same, given the texts of all specs
abbrev pub IsOverruledOf : SpecTexts → Planned → List ℕ → Type 0
IsOverruledOf texts p line = IsOverruledLine (text_of texts p.origin) p line

-- the object of an update in a directory conflict, as a line, with the text of its spec, the other destination and a
-- sentence on it
abbrev pub IsNestedLine : List ℕ → Planned → List ℕ → Type 0
IsNestedLine text p line =
    (other : List ℕ) × (message : List ℕ)
    × (line ≡ line_of (directory_conflict_object (json_text (source_text p.source))
    (option_map json_text p.destination) (json_text text) (origin_name p.origin) other message))

-- the same, given the texts of all specs
abbrev pub IsNestedOf : SpecTexts → Planned → List ℕ → Type 0
IsNestedOf texts p line = IsNestedLine (text_of texts p.origin) p line
