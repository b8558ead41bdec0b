-- Each warning is reported behind the others.
use Rattle.std.proofs.Common.{List, map, refl, subst, take_all, ◌∙◌}
use Rattle.refspec_commands.specs.declared.warnings.Warning.{Warning}
use Rattle.refspec_commands.specs.Warned.{AddsSaid}
use Rattle.refspec_commands.specs.WarnedViews.{said_of}
use Rattle.refspec_commands.proofs.WarnedLemmas.{AddsSaid-next, AddsSaid-start}
use Rattle.refspec_commands.proofs.warnings.report_warnings.Goals as goal

pub loop-warning-init : goal.loop-warning-init
loop-warning-init c = record { form = refl; said = AddsSaid-start c.args.report.now.form c.args.report.now }

pub loop-warning-preserved : goal.loop-warning-preserved
loop-warning-preserved c = record {
  form = c.in_ok-report.ensures.form ∙ c.loop-warning.invariant.form;
  said = AddsSaid-next c.args.report.now.form c.loop-warning.report.form c.args.warnings.now
      c.loop-warning.warning-index
      c.warning-item.result c.args.report.now c.loop-warning.report c.report.new.report c.loop-warning-test.true
      c.loop-warning.invariant.form c.warning-item.is c.loop-warning.invariant.said c.in_ok-report.ensures.said;
}

pub returns : goal.returns
returns c =
    subst (λ (l : List Warning). AddsSaid c.args.report.now.form (map said_of l) c.args.report.now
    c.loop-warning.report)
    (take_all c.loop-warning.warning-index c.args.warnings.now c.loop-warning-test.false) c.loop-warning.invariant.said
