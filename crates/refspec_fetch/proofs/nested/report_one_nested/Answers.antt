-- In JSON the report is an object; else the results stay as they were.
use Rattle.std.proofs.Common.{ℕ, List, subst}
use Rattle.gix_refspec_plan.specs.Views.Plan.{planned_of}
use Rattle.refspec_io.proofs.JsonLemmas.{AddsObjects-one}
use Rattle.refspec_io.proofs.ShownLemmas.{on_ok}
use Rattle.refspec_fetch.specs.LeftOut.{IsNestedLine, IsNestedOf}
use Rattle.refspec_fetch.proofs.nested.report_one_nested.Goals as goal

pub write_nested_object-requires : goal.write_nested_object-requires
write_nested_object-requires c = c.in_ok-source.ensures

pub returns-in-Json-clause-reported : goal.returns-in-Json-clause-reported
returns-in-Json-clause-reported c =
    let p = planned_of c.args.update.now in
    on_ok c.write_nested_object.result _ _ c.write_nested_object.ensures
    (λ write. AddsObjects-one c.args.report.now.form (IsNestedOf c.args.nestings.now.texts.now) p write.0
    c.args.report.now.results.items c.write_nested_object.new.out.items c.in-Json.is
    (subst (λ (t : List ℕ). IsNestedLine t p write.0) c.text_of-spec.ensures write.1) write.2)
