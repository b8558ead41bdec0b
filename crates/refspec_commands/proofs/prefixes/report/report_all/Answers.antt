-- The reasons are messages, or in JSON objects, in order.
use Rattle.std.proofs.Common.{List, map, subst, take_all, ◌∙◌}
use Rattle.gix_refspec.specs.Views.Spec.{reading_of}
use Rattle.gix_refspec_text.specs.declared.spec.RefSpecRef.{RefSpecRef}
use Rattle.refspec_commands.specs.Prefixes.{AddsAll}
use Rattle.refspec_commands.proofs.PrefixLemmas.{AddsAll-next}
use Rattle.refspec_commands.proofs.prefixes.report.report_all.Goals as goal

pub loop-spec-preserved : goal.loop-spec-preserved
loop-spec-preserved c = record {
  form = c.in_ok-report_reason.ensures.form ∙ c.loop-spec.invariant.form;
  reported = AddsAll-next c.args.notation c.args.report.now.form c.loop-spec.report.form c.args.reasons.now
      c.loop-spec.spec-index c.spec-item.result c.args.report.now.results.items c.loop-spec.report.results.items
      c.report_reason.new.report.results.items c.loop-spec-test.true c.spec-item.is c.loop-spec.invariant.form
      c.loop-spec.invariant.reported c.in_ok-report_reason.ensures.reported;
}

pub returns : goal.returns
returns c =
    subst (λ (l : List RefSpecRef). AddsAll c.args.notation c.args.report.now.form (map reading_of l)
    c.args.report.now.results.items c.loop-spec.report.results.items)
    (take_all c.loop-spec.spec-index c.args.reasons.now c.loop-spec-test.false) c.loop-spec.invariant.reported
