-- The warnings are behind what is shown of the texts.
use Rattle.std.proofs.Common.{List, map, subst}
use Rattle.refspec_io.specs.declared.call.Form.{Form}
use Rattle.refspec_io.specs.declared.checked.Checked.{Checked}
use Rattle.refspec_io.specs.Messages.{ReportsRefusals}
use Rattle.refspec_io.proofs.ShownLemmas.{on_ok}
use Rattle.refspec_commands.specs.declared.warnings.Warning.{Warning}
use Rattle.refspec_commands.specs.Canon.{AddsShown}
use Rattle.refspec_commands.specs.Warned.{AddsSaid}
use Rattle.refspec_commands.specs.WarnedViews.{said_of}
use Rattle.refspec_commands.proofs.checking.report_answer.Goals as goal

pub returns : goal.returns
returns c =
    let f = c.args.report.now.form in
    let old = c.args.report.now in
    let told = c.report_texts.new.report in
    let new = c.report_warnings.new.report in
    on_ok c.report_warnings.result _ _ c.report_warnings.ensures (λ said. record {
      told = told;
      form = c.in_ok-report_texts.ensures.form;
      shown = subst (λ (l : List Checked). AddsShown c.args.kind f l old.results.items told.results.items)
          c.as_slice.ensures.value c.in_ok-report_texts.ensures.reported;
      refused = subst (λ (l : List Checked). ReportsRefusals f l old.messages.items told.messages.items)
          c.as_slice.ensures.value c.in_ok-report_texts.ensures.refused;
      warned = subst (λ (l : List Warning). AddsSaid f (map said_of l) told new) c.as_slice-2.ensures.value
          (subst (λ (x : Form). AddsSaid x (map said_of c.as_slice-2.result.now) told new)
          c.in_ok-report_texts.ensures.form said);
    })
