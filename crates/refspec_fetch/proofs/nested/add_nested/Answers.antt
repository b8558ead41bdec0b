-- The update isn't in a directory conflict, or is beyond the limit, or is reported.
use Rattle.std.proofs.Common.{List, ◌∙◌, sym, subst}
use Rattle.gix_refspec_plan.specs.Matching.Plan.{Planned}
use Rattle.gix_refspec_plan.specs.Views.Plan.{planned_of}
use Rattle.refspec_io.specs.Json.{AddsObjects}
use Rattle.refspec_io.proofs.CountLemmas.{AddsObjects-beyond}
use Rattle.refspec_io.proofs.JsonLemmas.{AddsObjects-start}
use Rattle.refspec_io.proofs.ShownLemmas.{on_ok}
use Rattle.refspec_fetch.specs.LeftOut.{IsNestedOf}
use Rattle.refspec_fetch.proofs.VerdictLemmas.{nested-none, nested-one}
use Rattle.refspec_fetch.proofs.nested.add_nested.Goals as goal

pub returns-in_default-clause-reported : goal.returns-in_default-clause-reported
returns-in_default-clause-reported c =
    let f = c.args.report.now.form in
    let old = c.args.report.now.results.items in
    subst (λ (l : List Planned). AddsObjects f (IsNestedOf c.args.nestings.now.texts.now) l old old)
    (sym (nested-none (planned_of c.args.update.now) c.in_default.not-DirectoryConflict))
    (AddsObjects-start f (IsNestedOf c.args.nestings.now.texts.now) old)

pub returns-then-not-reports_next-clause-reported : goal.returns-then-not-reports_next-clause-reported
returns-then-not-reports_next-clause-reported c =
    let f = c.args.report.now.form in
    let old = c.args.report.now.results.items in
    subst (λ (l : List Planned). AddsObjects f (IsNestedOf c.args.nestings.now.texts.now) l old old)
    (sym (nested-one (planned_of c.args.update.now) c.in-DirectoryConflict.is))
    (AddsObjects-beyond f c.args.tally.now.limit c.args.tally.now.count (IsNestedOf c.args.nestings.now.texts.now)
    (planned_of c.args.update.now)
    old (sym c.reports_next.ensures.reported ∙ c.if-not-reports_next.true))

pub returns-clause-reported : goal.returns-clause-reported
returns-clause-reported c =
    let f = c.args.report.now.form in
    let old = c.args.report.now.results.items in
    let new = c.report_one_nested.new.report.results.items in
    on_ok c.report_one_nested.result _ _ c.report_one_nested.ensures.reported
    (λ one. subst (λ (l : List Planned). AddsObjects f (IsNestedOf c.args.nestings.now.texts.now) l old new)
    (sym (nested-one (planned_of c.args.update.now) c.in-DirectoryConflict.is)) one)
