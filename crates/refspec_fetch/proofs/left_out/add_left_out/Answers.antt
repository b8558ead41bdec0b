-- The update isn't left out, or is beyond the limit, or is reported.
use Rattle.std.proofs.Common.{List, ◌∙◌, sym, subst}
use Rattle.gix_refspec_plan.specs.Views.Plan.{planned_of}
use Rattle.refspec_io.specs.Json.{AddsObjects}
use Rattle.refspec_io.proofs.CountLemmas.{AddsObjects-beyond}
use Rattle.refspec_io.proofs.JsonLemmas.{AddsObjects-start}
use Rattle.refspec_io.proofs.ShownLemmas.{on_ok}
use Rattle.refspec_fetch.specs.LeftOut.{IsLeftOutOf}
use Rattle.refspec_fetch.specs.Verdicts.{Unwritable, unwritable}
use Rattle.refspec_fetch.proofs.VerdictLemmas.{left_out-none, left_out-one}
use Rattle.refspec_fetch.proofs.left_out.add_left_out.Goals as goal

pub returns-in_default-clause-reported : goal.returns-in_default-clause-reported
returns-in_default-clause-reported c =
    let f = c.args.report.now.form in
    let old = c.args.report.now.results.items in
    subst (λ (l : List Unwritable). AddsObjects f (IsLeftOutOf c.args.texts.now) l old old)
    (sym (left_out-none (planned_of c.args.update.now) c.in_default.not-LeftOut))
    (AddsObjects-start f (IsLeftOutOf c.args.texts.now) old)

pub returns-then-not-reports_next-clause-reported : goal.returns-then-not-reports_next-clause-reported
returns-then-not-reports_next-clause-reported c =
    let f = c.args.report.now.form in
    let old = c.args.report.now.results.items in
    subst (λ (l : List Unwritable). AddsObjects f (IsLeftOutOf c.args.texts.now) l old old)
    (sym (left_out-one (planned_of c.args.update.now) c.in-LeftOut.side c.in-LeftOut.is))
    (AddsObjects-beyond f c.args.tally.now.limit c.args.tally.now.count (IsLeftOutOf c.args.texts.now)
    (unwritable c.in-LeftOut.side (planned_of c.args.update.now))
    old (sym c.reports_next.ensures.reported ∙ c.if-not-reports_next.true))

pub returns-clause-reported : goal.returns-clause-reported
returns-clause-reported c =
    let f = c.args.report.now.form in
    let old = c.args.report.now.results.items in
    let new = c.report_one_left_out.new.report.results.items in
    on_ok c.report_one_left_out.result _ _ c.report_one_left_out.ensures.reported
    (λ one. subst (λ (l : List Unwritable). AddsObjects f (IsLeftOutOf c.args.texts.now) l old new)
    (sym (left_out-one (planned_of c.args.update.now) c.in-LeftOut.side c.in-LeftOut.is)) one)
