-- The form of a report stays.
use Rattle.std.proofs.Common.{◌≡◌, Bool, true, false, List, inl, inr, ap, ◌∙◌}
use Rattle.gix_refspec.specs.Specs.Reading.{Reading}
use Rattle.gix_refspec_plan.specs.Matching.Plan.{Planned}
use Rattle.refspec_io.specs.declared.call.Form.{Form}
use Rattle.refspec_io.specs.declared.call.Task.{Task}
use Rattle.refspec_fetch.specs.declared.origins.SpecTexts.{SpecTexts}
use Rattle.refspec_fetch.specs.declared.report.Style.{Style}
use Rattle.refspec_fetch.specs.Answer.{Answer, asks_updates}
use Rattle.refspec_fetch.specs.Fetch.{AddsFetch}
use Rattle.refspec_fetch.specs.Report.{AddsAnswer, AddsCarriedOut, AddsFirst, AddsUnwrittenIf, AddsUpdatesIf, Report}

of_unwritten : (asks : Bool) (texts : SpecTexts) (planned : List Planned) (old new : Report)
    → AddsUnwrittenIf asks texts planned old new → new.form ≡ old.form
of_unwritten true texts planned old new is = is.nested.form ∙ (is.overruled.form ∙ is.left_out.form)
of_unwritten false texts planned old new is = ap (λ (r : Report). r.form) is

of_updates : (asks : Bool) (style : Style) (texts : SpecTexts) (planned : List Planned) (old new : Report)
    → AddsUpdatesIf asks style texts planned old new → new.form ≡ old.form
of_updates true style texts planned old new is = is.0
of_updates false style texts planned old new is = ap (λ (r : Report). r.form) is

of_first : (style : Style) (texts : SpecTexts) (a : Answer) (old new : Report) → AddsFirst style texts a old new
    → new.form ≡ old.form
of_first style texts a old new is = is.form
    ∙ (of_unwritten (asks_updates a.question.subject) texts a.planned is.first is.second is.unwritten ∙ is.kept)

of_carried_out : (style : Style) (texts : SpecTexts) (a : Answer) (old new : Report)
    → AddsCarriedOut style texts a old new → new.form ≡ old.form
of_carried_out style texts a old new is = is.form ∙ of_updates (asks_updates a.question.subject) style texts a.planned
    old is.between is.updates

-- of that on an answer
pub AddsAnswer-form : (style : Style) (a : Answer) (old new : Report) → AddsAnswer style a old new → new.form ≡ old.form
AddsAnswer-form style a old new is = elim is.rest [
  | inl stopped ↦ ap (λ (r : Report). r.form) stopped.1 ∙ of_first style is.texts a old is.between is.first
  | inr goes ↦ of_carried_out style is.texts a is.between new goes.1 ∙ of_first style is.texts a old is.between is.first
]

-- and of that on a fetch
pub AddsFetch-form : (task : Task) (g : List Reading) (refused : Bool) (old new : Report)
    → AddsFetch task g refused old new → new.form ≡ old.form
AddsFetch-form task g refused old new (inl is) = AddsAnswer-form _ is.answer old new is.reported
AddsFetch-form task g refused old new (inr is) = is.0.form
