-- The message on a refused text. This project's own rule.
use Rattle.std.specs.Prelude.{◌≡◌, ◌⊎◌, ℕ, List, [], ◌∷◌, ◌++◌, codes, decimal}
use Rattle.std.specs.Str.{IsUtf8}
use Rattle.gix_refspec_text.specs.declared.parsing.Error.{Error}
use Rattle.gix_refspec_text.specs.Specs.Explained.{explained}
use Rattle.gix_refspec.specs.Specs.Grammar.{Reads}
use Rattle.gix_refspec.specs.Specs.Reading.{Reading}
use Rattle.gix_refspec.specs.Specs.Refusal.{IsRefused}
use Rattle.gix_refspec.specs.Views.Instruction.{ShowsRefusal}
use Rattle.refspec_io.specs.declared.call.Form.{Form}
use Rattle.refspec_io.specs.declared.call.Form.TheVariants as form
use Rattle.refspec_io.specs.declared.checked.Checked.{Checked}
use Rattle.refspec_io.specs.declared.checked.Checked.TheVariants as checked
use Rattle.refspec_io.specs.declared.texts.Location.{Location}
use Rattle.refspec_io.specs.declared.texts.Text.{Text}
use Rattle.refspec_io.specs.Shown.{IsQuoted}
use Rattle.refspec_io.specs.Texts.{Given, Spot, at_record, at_setting, at_argument, given_of, spot_of}
use Rattle.refspec_io.specs.Wrong.{IsWrongLine}

-- a name as a form shows it: raw in records, else quoted if needed, and in JSON as UTF-8
abbrev pub IsShownIn : Form → List ℕ → List ℕ → Type 0
IsShownIn form.Zeros name shown = shown ≡ name
IsShownIn form.Lines name shown = IsQuoted name shown
IsShownIn form.Json name shown = IsQuoted name shown × IsUtf8 shown

-- the location of a text, in the format of compilers: a spec by its number, a record by its input and its number, a
-- setting by its file and key
abbrev pub IsSpot : Form → Spot → List ℕ → Type 0
IsSpot f (at_argument number) shown = shown ≡ codes "spec " ++ decimal number
IsSpot f (at_record input number) shown = (name : List ℕ) × IsShownIn f input name
    × (shown ≡ name ++ (58 ∷ decimal number))
IsSpot f (at_setting file key) shown =
    (one : List ℕ) × (other : List ℕ) × IsShownIn f file one × IsShownIn f key other
    × (shown ≡ one ++ (codes ": " ++ other))

-- the same for a `Location`
abbrev pub IsLocation : Form → Location → List ℕ → Type 0
IsLocation f p shown = IsSpot f (spot_of p) shown

-- bytes grew by a location
abbrev pub WritesLocation : Form → Location → List ℕ → List ℕ → Type 0
WritesLocation f p old new = (shown : List ℕ) × IsLocation f p shown × (new ≡ old ++ shown)

-- bytes grew by a name as a form shows it
abbrev pub WritesShown : Form → List ℕ → List ℕ → List ℕ → Type 0
WritesShown f name old new = (shown : List ℕ) × IsShownIn f name shown × (new ≡ old ++ shown)

-- the first line: the location of the text, the text, and the sentence on the reason
pub record IsReasonLine (t : Given) (e : Error) (line : List ℕ) : Type 0 where
  pub at : List ℕ
  pub text : List ℕ
  pub is_spot : IsSpot form.Lines t.spot at
  pub is_text : IsQuoted t.bytes text
  pub is : line ≡ at ++ (codes ": " ++ (text ++ (codes ": " ++ (explained e ++ (10 ∷ [])))))

-- bytes grew by that line
abbrev pub WritesReason : Text → Error → List ℕ → List ℕ → Type 0
WritesReason t e old new = (line : List ℕ) × IsReasonLine (given_of t) e line × (new ≡ old ++ line)

-- that line, the line on the wrong bytes if there are any, and advice, which is left open
pub record AreRefusalLines (t : Given) (e : Error) (lines : List ℕ) : Type 0 where
  pub reason : List ℕ
  pub wrong : List ℕ
  pub advice : List ℕ
  pub is_reason : IsReasonLine t e reason
  pub is_wrong : IsWrongLine t.operation t.bytes wrong
  pub are : lines ≡ reason ++ (wrong ++ advice)

-- bytes grew by these lines
abbrev pub WritesRefusal : Text → Error → List ℕ → List ℕ → Type 0
WritesRefusal t e old new = (lines : List ℕ) × AreRefusalLines (given_of t) e lines × (new ≡ old ++ lines)

-- the messages grew by a refusal; in JSON they stayed as they were
abbrev pub ReportsRefusal : Form → Text → Error → List ℕ → List ℕ → Type 0
ReportsRefusal form.Json t e old new = new ≡ old
ReportsRefusal _ t e old new = WritesRefusal t e old new

-- the messages grew by the refusals among the checked texts, in order
abbrev pub ReportsRefusals : Form → List Checked → List ℕ → List ℕ → Type 0
ReportsRefusals f [] old new = new ≡ old
ReportsRefusals f (checked.Good text spec ∷ all) old new = ReportsRefusals f all old new
ReportsRefusals f (checked.Bad text error ∷ all) old new = (mid : List ℕ) × ReportsRefusal f text error old mid
    × ReportsRefusals f all mid new

-- the lines on a text: for a refused text those of the first reason against it; for a spec none
abbrev pub IsReportedOf : Given → List ℕ → Type 0
IsReportedOf t lines =
    ((e : Error) × ShowsRefusal (IsRefused t.operation t.bytes) e × AreRefusalLines t e lines)
    ⊎ ((r : Reading) × Reads t.operation t.bytes r × (lines ≡ []))

-- the lines on texts, in order
abbrev pub AreReportedOf : List Given → List ℕ → Type 0
AreReportedOf [] lines = lines ≡ []
AreReportedOf (t ∷ texts) lines = (one : List ℕ) × (rest : List ℕ) × IsReportedOf t one × AreReportedOf texts rest
    × (lines ≡ one ++ rest)

-- the messages are the lines on the texts; in JSON, where refusals are results, there are none
abbrev pub AreRefusals : Form → List Given → List ℕ → Type 0
AreRefusals form.Json texts messages = messages ≡ []
AreRefusals _ texts messages = AreReportedOf texts messages
