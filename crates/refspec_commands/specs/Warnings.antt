-- The answer and the exit status of `check`, and its report: the refusals, and behind them the warnings on valid specs.
-- This
-- project's own rule. In lines, what a warning says is left open; for JSON see `Warned`.
use Rattle.std.specs.Prelude.{◌≡◌, ◌≢◌, ◌⊎◌, ℕ, Bool, true, false, ◌||◌, ◌&&◌, List, [], Option, map, MatchBool, ⊤}
use Rattle.std.specs.List.{AllZip}
use Rattle.refspec_json.specs.declared.specs.SpecKind.{SpecKind}
use Rattle.refspec_io.specs.declared.call.Call.{Call}
use Rattle.refspec_io.specs.declared.call.Form.{Form}
use Rattle.refspec_io.specs.declared.call.Form.TheVariants as form
use Rattle.refspec_io.specs.declared.report.Report.{Report}
use Rattle.refspec_io.specs.Messages.{AreRefusals, ReportsRefusals}
use Rattle.refspec_io.specs.Read.{AreGood, DecidesRefused, HasBad, IsChecked}
use Rattle.refspec_io.specs.Texts.{Given, said}
use Rattle.refspec_commands.specs.declared.checking.Answer.{Answer}
use Rattle.refspec_commands.specs.declared.checking.Question.{Question}
use Rattle.refspec_commands.specs.Canon.{AddsShown}
use Rattle.refspec_commands.specs.Seen.{IsSeen, Seen}
use Rattle.refspec_commands.specs.Warned.{AddsSaid, AreWarnings, Asked, Said, nothing_asked}
use Rattle.refspec_commands.specs.WarnedViews.{asked_at, said_of, seen_of}

-- ---- the answer

-- in JSON, the warnings on texts
abbrev pub AreInJson : Form → (List ℕ → Asked) → List Seen → List Said → Type 0
AreInJson form.Json asks seen warnings = AreWarnings asks seen warnings
AreInJson _ asks seen warnings = ⊤

-- the warnings on texts, if they are asked for; else none
abbrev pub WarnsIf : (warns : Bool) → Form → (List ℕ → Asked) → List Seen → List Said → Type 0
WarnsIf true f asks seen warnings = AreInJson f asks seen warnings
WarnsIf false f asks seen warnings = warnings ≡ []

-- the answer: each text is a spec or refused, and the warnings on the specs
pub record IsCheck (q : Question) (a : Answer) : Type 0 where
  pub checked : AllZip IsChecked q.texts.now a.checked.items
  pub warns : WarnsIf q.warns q.form (asked_at q.beside) (map seen_of a.checked.items) (map said_of a.warnings.items)

-- the exit status: 1 if a text is refused, else 0
abbrev pub IsStatus : Answer → ℕ → Type 0
IsStatus a status = ((status ≡ 1) × HasBad a.checked.items) ⊎ ((status ≡ 0) × AreGood a.checked.items)

-- that of a strict call: 1 also if there is a warning
abbrev pub IsStrictStatus : Answer → ℕ → Type 0
IsStrictStatus a status =
    ((status ≡ 1) × (HasBad a.checked.items ⊎ (a.warnings.items ≢ [])))
    ⊎ ((status ≡ 0) × AreGood a.checked.items × (a.warnings.items ≡ []))

-- ---- the report

-- the report grew by an answer: the refusals and what a kind says of the specs, and then the warnings
pub record AddsCheck (kind : Option SpecKind) (a : Answer) (old new : Report) : Type 0 where
  pub told : Report
  pub form : told.form ≡ old.form
  pub shown : AddsShown kind old.form a.checked.items old.results.items told.results.items
  pub refused : ReportsRefusals old.form a.checked.items old.messages.items told.messages.items
  pub warned : AddsSaid old.form (map said_of a.warnings.items) told new

-- what a call of `check` reports on its texts, and whether it fails: if a text is refused, or the call is strict and
-- there is
-- a warning
pub record ShowsCheck (call : Call) (texts : List Given) (report : Report) (failed : Bool) : Type 0 where
  pub told : Report
  pub refused : Bool
  pub seen : List Seen
  pub warnings : List Said
  pub warned : Bool
  pub are : AreRefusals call.form texts told.messages.items
  pub decides : DecidesRefused refused (map said texts)
  pub sees : AllZip IsSeen texts seen
  pub warns : WarnsIf call.warns call.form (λ key. nothing_asked) seen warnings
  pub any : MatchBool warned (warnings ≢ []) (warnings ≡ [])
  pub adds : AddsSaid call.form warnings told report
  pub status : failed ≡ (refused || (call.is_strict && warned))
