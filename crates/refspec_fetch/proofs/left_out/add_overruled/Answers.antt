-- The update isn't overruled, or is beyond the limit, or is reported.
use Rattle.std.proofs.Common.{List, ◌∙◌, sym, subst}
use Rattle.gix_refspec_plan.specs.Matching.Plan.{Planned}
use Rattle.gix_refspec_plan.specs.Views.Plan.{planned_of}
use Rattle.refspec_io.specs.Json.{AddsObjects}
use Rattle.refspec_io.proofs.CountLemmas.{AddsObjects-beyond}
use Rattle.refspec_io.proofs.JsonLemmas.{AddsObjects-start}
use Rattle.refspec_io.proofs.ShownLemmas.{on_ok}
use Rattle.refspec_fetch.specs.LeftOut.{IsOverruledOf}
use Rattle.refspec_fetch.proofs.VerdictLemmas.{overruled-none, overruled-one}
use Rattle.refspec_fetch.proofs.left_out.add_overruled.Goals as goal

pub returns-in_default-clause-reported : goal.returns-in_default-clause-reported
returns-in_default-clause-reported c =
    let f = c.args.report.now.form in
    let old = c.args.report.now.results.items in
    subst (λ (l : List Planned). AddsObjects f (IsOverruledOf c.args.texts.now) l old old)
    (sym (overruled-none (planned_of c.args.update.now) c.in_default.not-Overruled))
    (AddsObjects-start f (IsOverruledOf c.args.texts.now) old)

pub returns-then-not-reports_next-clause-reported : goal.returns-then-not-reports_next-clause-reported
returns-then-not-reports_next-clause-reported c =
    let f = c.args.report.now.form in
    let old = c.args.report.now.results.items in
    subst (λ (l : List Planned). AddsObjects f (IsOverruledOf c.args.texts.now) l old old)
    (sym (overruled-one (planned_of c.args.update.now) c.in-Overruled.is))
    (AddsObjects-beyond f c.args.tally.now.limit c.args.tally.now.count (IsOverruledOf c.args.texts.now)
    (planned_of c.args.update.now)
    old (sym c.reports_next.ensures.reported ∙ c.if-not-reports_next.true))

pub returns-clause-reported : goal.returns-clause-reported
returns-clause-reported c =
    let f = c.args.report.now.form in
    let old = c.args.report.now.results.items in
    let new = c.report_one_overruled.new.report.results.items in
    on_ok c.report_one_overruled.result _ _ c.report_one_overruled.ensures.reported
    (λ one. subst (λ (l : List Planned). AddsObjects f (IsOverruledOf c.args.texts.now) l old new)
    (sym (overruled-one (planned_of c.args.update.now) c.in-Overruled.is)) one)
