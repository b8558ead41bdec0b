-- How the updates of a plan are shown in lines, grouped below their specs. This project's own rule: consecutive
-- updates of a spec are below its text; if a given spec is the only one, its text isn't shown.
use Rattle.std.specs.Prelude.{◌≡◌, ◌≢◌, ◌⊎◌, ℕ, Bool, true, false, List, [], ◌∷◌, ◌++◌, Option, Some, None, MatchBool}
use Rattle.std.specs.Prelude.{unwrap_or, codes}
use Rattle.gix_refspec_plan.specs.declared.Origin.{Origin}
use Rattle.gix_refspec_plan.specs.Matching.Plan.{Planned}
use Rattle.refspec_io.specs.Rows.{IsCell, source_text}
use Rattle.refspec_io.specs.Shown.{IsQuoted}
use Rattle.refspec_fetch.specs.declared.origins.SpecTexts.{SpecTexts}
use Rattle.refspec_fetch.specs.Origins.{text_of}
use Rattle.refspec_fetch.specs.Updates.{IsHeading}
use Rattle.refspec_fetch.specs.Verdicts.{is_written}

-- a line: the source as a cell, and the destination as shown, or FETCH_HEAD if it is missing
pub record IsShort (p : Planned) (line : List ℕ) : Type 0 where
  pub cell : List ℕ
  pub last : List ℕ
  pub is_cell : IsCell (source_text p.source) cell
  pub is_last : IsQuoted (unwrap_or p.destination (codes "FETCH_HEAD")) last
  pub is : line ≡ cell ++ (last ++ (10 ∷ []))

-- the results grew by the line of an update
abbrev pub WritesShort : Planned → List ℕ → List ℕ → Type 0
WritesShort p old new = (line : List ℕ) × IsShort p line × (new ≡ old ++ line)

-- a line for each update, in order
abbrev pub AreShort : List Planned → List ℕ → Type 0
AreShort [] lines = lines ≡ []
AreShort (p ∷ ps) lines = (line : List ℕ) × (rest : List ℕ) × IsShort p line × AreShort ps rest × (lines ≡ line ++ rest)

abbrev pub AddsShort : List Planned → List ℕ → List ℕ → Type 0
AddsShort ps old new = (lines : List ℕ) × AreShort ps lines × (new ≡ old ++ lines)

-- the line before that of an update: the heading of its spec, unless the previous update is by the same spec
abbrev pub IsHead : SpecTexts → Option Origin → Planned → List ℕ → Type 0
IsHead texts before p head =
    ((before ≡ Some p.origin) × (head ≡ []))
    ⊎ ((before ≢ Some p.origin) × IsHeading (text_of texts p.origin) p.origin head)

-- the lines of an update: a heading if needed, and its own line, indented by two spaces
pub record IsBelow (texts : SpecTexts) (before : Option Origin) (p : Planned) (lines : List ℕ) : Type 0 where
  pub head : List ℕ
  pub line : List ℕ
  pub is_head : IsHead texts before p head
  pub is_line : IsShort p line
  pub is : lines ≡ head ++ (codes "  " ++ line)

-- the results grew by these lines
abbrev pub WritesBelow : SpecTexts → Option Origin → Planned → List ℕ → List ℕ → Type 0
WritesBelow texts before p old new = (lines : List ℕ) × IsBelow texts before p lines × (new ≡ old ++ lines)

-- the same if the update is written, which then is the previous one of the next
abbrev pub AddsBelow : SpecTexts → Planned → (before after : Option Origin) → List ℕ → List ℕ → Type 0
AddsBelow texts p before after old new = MatchBool (is_written p.verdict)
    (WritesBelow texts before p old new × (after ≡ Some p.origin)) ((new ≡ old) × (after ≡ before))

-- the lines of updates, in order
abbrev pub AreBelow : SpecTexts → Option Origin → List Planned → List ℕ → Type 0
AreBelow texts before [] lines = lines ≡ []
AreBelow texts before (p ∷ ps) lines =
    (one : List ℕ) × (rest : List ℕ) × IsBelow texts before p one × AreBelow texts (Some p.origin) ps rest
    × (lines ≡ one ++ rest)

abbrev pub AddsGrouped : SpecTexts → List Planned → List ℕ → List ℕ → Type 0
AddsGrouped texts ps old new = (lines : List ℕ) × AreBelow texts None ps lines × (new ≡ old ++ lines)

-- the results grew by updates: without headings, if a given spec is the only one
abbrev pub AddsGroupsIf : Bool → SpecTexts → List Planned → List ℕ → List ℕ → Type 0
AddsGroupsIf true texts ps old new = AddsShort ps old new
AddsGroupsIf false texts ps old new = AddsGrouped texts ps old new

abbrev pub AddsGroups : SpecTexts → List Planned → List ℕ → List ℕ → Type 0
AddsGroups texts ps old new = AddsGroupsIf texts.is_alone texts ps old new
