-- The report on a fetch, in the terms of the library. This project's own rule.
use Rattle.std.specs.Prelude.{◌≡◌, ◌⊎◌, ℕ, Bool, true, false, List, ◌++◌}
use Rattle.std.specs.List.{flat_map}
use Rattle.gix_refspec_plan.specs.Matching.Plan.{IsCarriedOut, Planned}
use Rattle.refspec_io.specs.declared.call.Form.{Form}
use Rattle.refspec_io.specs.declared.call.Form.TheVariants as form
use Rattle.refspec_io.specs.declared.report.Report.{Report as DeclaredReport}
use Rattle.refspec_io.specs.Json.{AddsObjects}
use Rattle.refspec_io.specs.Shown.{Grows}
use Rattle.refspec_fetch.specs.declared.origins.SpecTexts.{SpecTexts}
use Rattle.refspec_fetch.specs.declared.report.Style.{Style}
use Rattle.refspec_fetch.specs.Answer.{Answer, asks_updates}
use Rattle.refspec_fetch.specs.Conflicts.{AddsConflicts}
use Rattle.refspec_fetch.specs.Groups.{AddsGroups}
use Rattle.refspec_fetch.specs.LeftOut.{IsLeftOutOf, IsNestedOf, IsOverruledOf}
use Rattle.refspec_fetch.specs.Missing.{AddsMissing}
use Rattle.refspec_fetch.specs.Origins.{AreTextsOf}
use Rattle.refspec_fetch.specs.Stale.{AddsStale}
use Rattle.refspec_fetch.specs.Updates.{AddsUpdateLines, update_fields, update_object}
use Rattle.refspec_fetch.specs.Verdicts.{Unwritable, in_conflict_of, left_out_of, nested_of, overruled_of, written_of}

-- the results and messages so far, and their form
pub record Report : Type 0 where
  pub form : Form
  pub results : List ℕ
  pub messages : List ℕ

abbrev pub report_of : DeclaredReport → Report
report_of r = record { form = r.form; results = r.results.items; messages = r.messages.items }

-- the results grew by the lines of updates: each with its spec if `long`, else grouped below their specs
abbrev pub AddsLongOrGroups : Bool → SpecTexts → List Planned → List ℕ → List ℕ → Type 0
AddsLongOrGroups true texts ps old new = AddsUpdateLines texts ps old new
AddsLongOrGroups false texts ps old new = AddsGroups texts ps old new

-- the results grew by updates
abbrev pub AddsUpdates : Bool → Form → SpecTexts → List Planned → List ℕ → List ℕ → Type 0
AddsUpdates long form.Lines texts ps old new = AddsLongOrGroups long texts ps old new
AddsUpdates long form.Zeros texts ps old new = new ≡ old ++ flat_map (update_fields texts) ps
AddsUpdates long form.Json texts ps old new = new ≡ old ++ flat_map (update_object texts) ps

-- in JSON the results grew by a line for each element; the messages only grew
pub record AddsNotes (A : Type 0) (IsLine : A → List ℕ → Type 0) (xs : List A) (old new : Report) : Type 0 where
  pub form : new.form ≡ old.form
  pub said : Grows old.messages new.messages
  pub objects : AddsObjects old.form IsLine xs old.results new.results

-- the updates that are left out, overruled or in a directory conflict were reported
pub record AddsUnwritten (texts : SpecTexts) (planned : List Planned) (old new : Report) : Type 0 where
  pub first : Report
  pub second : Report
  pub left_out : AddsNotes Unwritable (IsLeftOutOf texts) (left_out_of planned) old first
  pub overruled : AddsNotes Planned (IsOverruledOf texts) (overruled_of planned) first second
  pub nested : AddsNotes Planned (IsNestedOf texts) (nested_of planned) second new

-- the same, if updates are asked for; else nothing
abbrev pub AddsUnwrittenIf : Bool → SpecTexts → List Planned → Report → Report → Type 0
AddsUnwrittenIf true texts planned old new = AddsUnwritten texts planned old new
AddsUnwrittenIf false texts planned old new = new ≡ old

-- what stops the fetch and what it doesn't write was reported: the missing sources, the updates that aren't written if
-- updates are asked for, and the conflicts
pub record AddsFirst (style : Style) (texts : SpecTexts) (a : Answer) (old new : Report) : Type 0 where
  pub first : Report
  pub second : Report
  pub missing : AddsMissing style.limit old.form texts a.missing old.messages first.messages old.results first.results
  pub kept : first.form ≡ old.form
  pub unwritten : AddsUnwrittenIf (asks_updates a.question.subject) texts a.planned first second
  pub conflicts : AddsConflicts style.limit second.form texts (in_conflict_of a.planned)
      second.messages new.messages second.results new.results
  pub form : new.form ≡ second.form

-- the updates that are written were reported, if updates are asked for; else nothing
abbrev pub AddsUpdatesIf : Bool → Style → SpecTexts → List Planned → Report → Report → Type 0
AddsUpdatesIf true style texts planned old new =
    (new.form ≡ old.form) × AddsUpdates style.long old.form texts (written_of planned) old.results new.results
AddsUpdatesIf false style texts planned old new = new ≡ old

-- what a fetch that is carried out writes and deletes was reported
pub record AddsCarriedOut (style : Style) (texts : SpecTexts) (a : Answer) (old new : Report) : Type 0 where
  pub between : Report
  pub updates : AddsUpdatesIf (asks_updates a.question.subject) style texts a.planned old between
  pub stale : AddsStale between.form texts a between.results new.results
  pub form : new.form ≡ between.form

-- an answer was reported: what stops the fetch and what it doesn't write, and then, if the plan is carried out, what it
-- writes and deletes
pub record AddsAnswer (style : Style) (a : Answer) (old new : Report) : Type 0 where
  pub texts : SpecTexts
  pub between : Report
  pub of_specs : AreTextsOf a.question.wish texts
  pub first : AddsFirst style texts a old between
  pub rest : ((¬ (IsCarriedOut a.planned a.missing)) × (new ≡ between))
      ⊎ (IsCarriedOut a.planned a.missing × AddsCarriedOut style texts a between new)
