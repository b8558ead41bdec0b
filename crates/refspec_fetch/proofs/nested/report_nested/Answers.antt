-- Each update is reported after the others, if it is in a directory conflict.
use Rattle.std.proofs.Common.{List, [], ◌∷◌, ◌∙◌, map, sym, subst, take}
use Rattle.gix_refspec_plan.specs.Matching.Plan.{Planned}
use Rattle.gix_refspec_plan.specs.Views.Plan.{planned_of}
use Rattle.refspec_io.specs.Json.{AddsObjects}
use Rattle.refspec_io.proofs.JsonLemmas.{AddsObjects-append}
use Rattle.refspec_io.proofs.ShownLemmas.{grows_on, on_ok}
use Rattle.refspec_fetch.specs.LeftOut.{IsNestedOf}
use Rattle.refspec_fetch.specs.Verdicts.{nested_of}
use Rattle.refspec_fetch.proofs.VerdictLemmas.{nested-next}
use Rattle.refspec_fetch.proofs.nested.report_nested.Goals as goal

pub loop-update-preserved : goal.loop-update-preserved
loop-update-preserved c =
    let xs = c.args.updates.now in
    let i = c.loop-update.update-index in
    let x = c.update-item.result in
    let f = c.args.report.now.form in
    let old = c.args.report.now.results.items in
    let new = c.add_nested.new.report in
    let so_far = c.loop-update.invariant in
    let one = c.in_ok-add_nested.ensures in
    record {
      form = one.form ∙ so_far.form;
      said = grows_on _ _ _ so_far.said one.said;
      reported = subst (λ (l : List Planned). AddsObjects f (IsNestedOf c.args.texts.now) l old new.results.items)
          (sym (nested-next xs i x c.loop-update-test.true c.update-item.is))
          (AddsObjects-append f c.loop-update.report.form (IsNestedOf c.args.texts.now)
          (nested_of (map planned_of (take i xs))) (nested_of (planned_of x ∷ [])) old
          c.loop-update.report.results.items
          new.results.items so_far.form so_far.reported one.reported);
    }

pub returns-clause-said : goal.returns-clause-said
returns-clause-said c = on_ok c.write_more.result _ _ c.write_more.ensures
    (λ more. grows_on _ _ _ c.loop-update.invariant.said (_, more))
