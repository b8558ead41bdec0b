-- What `git refspec check` finds and reports, and its exit status. This project's own rule. Which warnings there are on
-- remotes, and the messages, are left open.
use Rattle.std.specs.Prelude.{◌≡◌, ◌⊎◌, ℕ, [], ◌∷◌, ◌++◌, ◌+◌, ⊤, ◌^◌, ◌-◌, Bool, IsTrue, List, MatchOption}
use Rattle.std.specs.Prelude.{None, Option, Some, codes, cond, decimal, length, map, max, min, not, true}
use Rattle.std.specs.List.{All}
use Rattle.refspec_io.specs.declared.call.Form.TheVariants as form
use Rattle.refspec_io.specs.declared.fault.Fault.TheVariants as fault
use Rattle.refspec_io.specs.declared.report.Report.{Report}
use Rattle.refspec_io.specs.declared.settings.Setting.{Setting}
use Rattle.refspec_io.specs.Read.{AreGood}
use Rattle.refspec_io.specs.Settings.{HasLacking}
use Rattle.refspec_io.specs.Shown.{KeepsReport}
use Rattle.refspec_io.specs.Texts.{AreValues, Given, given_of}
use Rattle.refspec_json.specs.declared.specs.SpecKind.{SpecKind}
use Rattle.refspec_json.specs.declared.specs.SpecKind.TheVariants as kind
use Rattle.refspec_commands.specs.Canon.{AddsShown}
use Rattle.refspec_commands.specs.declared.checking.Answer.{Answer as Checks}
use Rattle.refspec_commands.specs.declared.checking.Question.{Question}
use Rattle.refspec_commands.specs.declared.warnings.Warning.{Warning}
use Rattle.refspec_commands.specs.Warned.{AddsSaid}
use Rattle.refspec_commands.specs.WarnedViews.{said_of}
use Rattle.refspec_commands.specs.Warnings.{IsCheck, IsStatus, IsStrictStatus}
use Rattle.refspec_request.specs.declared.arguments.Request.{Request}
use Rattle.refspec_request.specs.declared.choice.Repository.{Repository}
use Rattle.refspec_request.specs.declared.output.Output.{Output}
use Rattle.refspec_request.specs.declared.refusal.Refusal.{Refusal}
use Rattle.refspec_request.specs.declared.refusal.Refusal.TheVariants as refusal
use Rattle.refspec_request.specs.declared.remotes.OldRemote.{OldRemote}
use Rattle.refspec_request.specs.Choices.{HasNoOldForm, IsOldForm}
use Rattle.refspec_request.specs.Refusals.{refusal_status}
use Rattle.refspec_git.specs.declared.answer.Stop.{Stop}
use Rattle.refspec_git.specs.declared.answer.Stop.TheVariants as stop
use Rattle.refspec_git.specs.declared.checking.Found.{Found}
use Rattle.refspec_git.specs.declared.checking.Remark.{Remark}
use Rattle.refspec_git.specs.declared.checking.Remark.TheVariants as remark
use Rattle.refspec_git.specs.declared.chosen.Chosen.{Chosen}
use Rattle.refspec_git.specs.Chosen.{AreChosen, AreUsable, AreValuesOf, HasRemotes, HasUnusable, NamesRemotes}
use Rattle.refspec_git.specs.Chosen.{RefusesChosen, operation_for, spec_texts}
use Rattle.refspec_git.specs.Stops.{Passes, StopsFirst}
use Rattle.refspec_git.specs.World.{World}

-- the texts of a call: the chosen specs, and then those of values
abbrev pub AreTexts : Request → Chosen → List Setting → List Given → Type 0
AreTexts request c values texts = (own : List Given) × AreValues values own
    × (texts ≡ spec_texts (operation_for request.push) (map (λ s. s.now) c.specs.items) ++ own)

-- the answer of `refspec check` on texts, and behind its warnings others, unless the call asks for none
pub record IsAnswered (request : Request) (texts : List Given) (a : Checks) : Type 0 where
  pub question : Question
  pub own : Checks
  pub more : List Warning
  pub asked : map given_of question.texts.now ≡ texts
  pub warns : question.warns ≡ not request.no_warnings
  pub form : question.form ≡ request.form
  pub answers : IsCheck question own
  pub checked : a.checked ≡ own.checked
  pub warned : a.warnings.items ≡ own.warnings.items ++ more
  pub silent : IsTrue request.no_warnings → more ≡ []

-- what was found grew by these refusals
abbrev pub AddsRefusals : List Refusal → Found → Found → Type 0
AddsRefusals es old new = (new.values ≡ old.values) × (new.answer ≡ old.answer)
    × (new.refusals.items ≡ old.refusals.items ++ es)

-- no value that is checked is missing or refused
abbrev pub IsGood : List Setting → Checks → Type 0
IsGood values a = ¬ (HasLacking values) × AreGood a.checked.items

-- the refusal of a value of another remote: if the arguments name remotes, whose values are good
abbrev pub AreOthers : Repository → Chosen → List Setting → Checks → List Refusal → Type 0
AreOthers r c values a es =
    (¬ (IsGood values a × NamesRemotes c) × (es ≡ []))
    ⊎ (IsGood values a × NamesRemotes c × (all : List Setting) × AreValuesOf None r.settings.now all
    × ((AreUsable all × (es ≡ [])) ⊎ (HasUnusable all × (es ≡ refusal.OtherRefused ∷ []))))

-- the refusals of remotes that have files, and no location in the configuration
abbrev pub AreOldForms : Repository → List OldRemote → List Refusal → Type 0
AreOldForms r [] es = es ≡ []
AreOldForms r (o ∷ old) es =
    (HasNoOldForm r o.name.items × AreOldForms r old es)
    ⊎ ((e : Refusal) × (rest : List Refusal) × IsOldForm r o.name.items e × AreOldForms r old rest × (es ≡ e ∷ rest))

-- those of all remotes, if all are checked
abbrev pub AreOlds : Repository → Chosen → List Refusal → Type 0
AreOlds r c es = MatchOption c.remotes (AreOldForms r r.old.now es) (λ set. es ≡ [])

-- the refusal of a setting at which Git stops, if remotes are checked
abbrev pub AreStops : Repository → Request → Chosen → List Refusal → Type 0
AreStops r request c es =
    (¬ (HasRemotes c) × (es ≡ []))
    ⊎ (HasRemotes c × All (Passes request.command) r.settings.now × (es ≡ []))
    ⊎ (HasRemotes c × (e : Refusal) × StopsFirst request.command r.settings.now e × (es ≡ e ∷ []))

-- what is found for a call that chooses these
pub record IsFound (r : Repository) (request : Request) (c : Chosen) (f : Found) : Type 0 where
  pub texts : List Given
  pub others : List Refusal
  pub olds : List Refusal
  pub stops : List Refusal
  pub values_of : AreValuesOf c.remotes r.settings.now f.values.items
  pub given : AreTexts request c f.values.items texts
  pub answered : IsAnswered request texts f.answer
  pub other : AreOthers r c f.values.items f.answer others
  pub old : AreOlds r c olds
  pub stopped : AreStops r request c stops
  pub refused : f.refusals.items ≡ (others ++ olds) ++ stops

-- the exit status of what is found, but for the refusals
abbrev pub IsOwnStatus : Bool → Found → ℕ → Type 0
IsOwnStatus strict f status =
    (HasLacking f.values.items × (status ≡ 1))
    ⊎ (¬ (HasLacking f.values.items) × cond strict (IsStrictStatus f.answer status) (IsStatus f.answer status))

-- the greatest of a status and those of refusals
abbrev pub greatest : ℕ → List Refusal → ℕ
greatest status [] = status
greatest status (e ∷ es) = greatest (max status (refusal_status e)) es

abbrev pub IsFoundStatus : Request → Found → ℕ → Type 0
IsFoundStatus request f status =
    (own : ℕ) × IsOwnStatus request.strict f own × (status ≡ greatest own f.refusals.items)

-- what is reported of specs that are good
abbrev pub kind_of : Bool → Option SpecKind
kind_of verbose = cond verbose (Some kind.Good) None

-- the report: first the values that are missing, then the texts, and the warnings at the end
pub record IsReported (request : Request) (f : Found) (report : Report) : Type 0 where
  pub start : Report
  pub lacking : Report
  pub told : Report
  pub before : Report
  pub form : start.form ≡ request.form
  pub empty : start.results.items ≡ []
  pub lacks : KeepsReport start lacking
  pub shown : AddsShown (kind_of request.verbose) lacking.form f.answer.checked.items
      lacking.results.items told.results.items
  pub kept : before.results ≡ told.results
  pub warned : AddsSaid before.form (map said_of f.answer.warnings.items) before report

-- nothing is reported of what is found, in lines
pub record IsSilent (request : Request) (f : Found) : Type 0 where
  pub lines : request.form ≡ form.Lines
  pub brief : ¬ (IsTrue request.verbose)
  pub whole : ¬ (HasLacking f.values.items)
  pub accepted : f.refusals.items ≡ []
  pub good : IsStrictStatus f.answer 0

-- a remark at the end: only if there is nothing to check, or to a terminal that so many values and specs are good
abbrev pub IsRemark : World → Request → Found → ℕ → Option Remark → Type 0
IsRemark w request f count None = ⊤
IsRemark w request f count (Some remark.Nothing) = (count ≡ 0) × IsFoundStatus request f 0
IsRemark w request f count (Some (remark.Good many)) = (many ≡ count) × IsSilent request f × w.watched true

abbrev pub remark_text : Option Remark → List ℕ
remark_text None = []
remark_text (Some remark.Nothing) = codes "git refspec: there are no fetch or push values\n"
remark_text (Some (remark.Good many)) = codes "git refspec: " ++ (decimal many ++ codes " checked, all good\n")

-- this output is the report on what is found, behind which there may be a remark, with its exit status
pub record PrintsFound (w : World) (request : Request) (f : Found) (count : ℕ) (output : Output) : Type 0 where
  pub report : Report
  pub end : Option Remark
  pub reported : IsReported request f report
  pub results : output.results ≡ report.results
  pub said : IsRemark w request f count end
  pub messages : output.messages.items ≡ report.messages.items ++ remark_text end
  pub status : IsFoundStatus request f output.status

-- a call of `check` ends with this output
pub record IsChecked (w : World) (r : Repository) (request : Request) (output : Output) : Type 0 where
  pub chosen : Chosen
  pub found : Found
  pub chooses : AreChosen request r chosen
  pub finds : IsFound r request chosen found
  pub prints : PrintsFound w request found
      (min (length found.values.items + length chosen.specs.items) (2 ^ 64 - 1)) output

-- why it reports nothing
abbrev pub StopsCheck : Repository → Request → Stop → Type 0
StopsCheck r request (stop.Refused e) = RefusesChosen request r (stop.Refused e)
StopsCheck r request (stop.Failed f) = f ≡ fault.Memory
