-- How the specs whose source the remote lacks are reported. This project's own rule. Which names of the remote are
-- listed is left open.
use Rattle.std.specs.Prelude.{◌≡◌, ℕ, zero, suc, ◌-◌, List, ◌∷◌, ◌++◌, Option, None, Some, codes, length}
use Rattle.gix_refspec_plan.specs.declared.Origin.{Origin}
use Rattle.refspec_json.specs.Objects.{line_of, missing_object}
use Rattle.refspec_io.specs.declared.call.Form.{Form}
use Rattle.refspec_io.specs.declared.call.Form.TheVariants as form
use Rattle.refspec_io.specs.declared.call.Limit.{Limit}
use Rattle.refspec_io.specs.Counts.{few}
use Rattle.refspec_io.specs.Json.{AddsObjects, AreInOrder, json_text}
use Rattle.refspec_io.specs.Shown.{IsQuoted}
use Rattle.refspec_fetch.specs.declared.origins.SpecTexts.{SpecTexts}
use Rattle.refspec_fetch.specs.Origins.{note_of, origin_name, text_of}

-- the sentence on such a spec
abbrev pub sentence : List ℕ
sentence = codes "the remote has no such ref, so git fetch writes nothing"

-- the lines on such a spec: its text as shown, what is said behind it, and the sentence; and lines with names or advice
pub record IsMissingLines (text : List ℕ) (origin : Origin) (lines : List ℕ) : Type 0 where
  pub shown : List ℕ
  pub names : List ℕ
  pub is_shown : IsQuoted text shown
  pub is : lines ≡ codes "missing: " ++ (shown ++ (note_of origin ++ (codes ": " ++ (sentence ++ (10 ∷ names)))))

-- bytes grew by these lines
abbrev pub WritesMissing : List ℕ → Origin → List ℕ → List ℕ → Type 0
WritesMissing text origin old new = (lines : List ℕ) × IsMissingLines text origin lines × (new ≡ old ++ lines)

-- how many more there are, if there are
abbrev pub some_more : ℕ → Option ℕ
some_more zero = None
some_more (suc n) = Some (suc n)

-- the object of such a spec, as a line: of so many names of the remote at most 20, or all, and how many more there are
pub record IsMissingObject (limit : Limit) (text : List ℕ) (origin : Origin) (line : List ℕ) : Type 0 where
  pub count : ℕ
  pub names : List (List ℕ)
  pub listed : length names ≡ few limit count
  pub is : line ≡ line_of (missing_object (json_text text) (origin_name origin) sentence names
      (some_more (count - few limit count)))

-- bytes grew by that line
abbrev pub WritesMissingObject : Limit → List ℕ → Origin → List ℕ → List ℕ → Type 0
WritesMissingObject limit text origin old new = (line : List ℕ) × IsMissingObject limit text origin line
    × (new ≡ old ++ line)

-- the same, given the texts of all specs
abbrev pub IsMissingOf : SpecTexts → Origin → List ℕ → Type 0
IsMissingOf texts origin lines = IsMissingLines (text_of texts origin) origin lines

abbrev pub IsMissingObjectOf : Limit → SpecTexts → Origin → List ℕ → Type 0
IsMissingObjectOf limit texts origin line = IsMissingObject limit (text_of texts origin) origin line

-- the messages grew by the lines on each spec, in order; in JSON they stayed as they were
abbrev pub AddsLinesOnMissing : Form → SpecTexts → List Origin → List ℕ → List ℕ → Type 0
AddsLinesOnMissing form.Json texts missing old new = new ≡ old
AddsLinesOnMissing _ texts missing old new = (lines : List ℕ) × AreInOrder (IsMissingOf texts) missing lines
    × (new ≡ old ++ lines)

-- and in JSON the results grew by the objects
pub record AddsMissing (limit : Limit) (form : Form) (texts : SpecTexts) (missing : List Origin)
    (before after old new : List ℕ) : Type 0 where
  pub messages : AddsLinesOnMissing form texts missing before after
  pub objects : AddsObjects form (IsMissingObjectOf limit texts) missing old new
