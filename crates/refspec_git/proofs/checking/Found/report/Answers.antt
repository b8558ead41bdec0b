-- The parts of the report follow each other.
use Rattle.std.proofs.Common.{List, Option, map, refl, subst}
use Rattle.refspec_io.specs.declared.checked.Checked.{Checked}
use Rattle.refspec_io.specs.declared.report.Report.{Report}
use Rattle.refspec_json.specs.declared.specs.SpecKind.{SpecKind}
use Rattle.refspec_commands.specs.Canon.{AddsShown}
use Rattle.refspec_commands.specs.declared.warnings.Warning.{Warning}
use Rattle.refspec_commands.specs.Warned.{AddsSaid}
use Rattle.refspec_commands.specs.WarnedViews.{said_of}
use Rattle.refspec_git.proofs.checking.Found.report.Goals as goal

pub returns : goal.returns
returns c =
    let lacking = c.refuse_lacking.new.report in
    let told = c.report_texts.new.report in
    let new = c.report_warnings.new.report in
    let before : Report = record {
      form = told.form;
      results = told.results;
      messages = c.write_refusals.new.messages;
    } in
    record {
      start = c.new-report.result;
      lacking = lacking;
      told = told;
      before = before;
      form = c.new-report.ensures.form;
      empty = c.new-report.ensures.empty;
      lacks = c.in_ok-refuse_lacking.ensures;
      shown = subst (λ (k : Option SpecKind). AddsShown k lacking.form c.args.self.now.answer.checked.items
          lacking.results.items told.results.items) c.kind_of-kind.ensures
          (subst (λ (l : List Checked). AddsShown c.kind_of-kind.result lacking.form l lacking.results.items
          told.results.items) c.as_slice-2.ensures.value c.in_ok-report_texts.ensures.reported);
      kept = refl;
      warned = subst (λ (l : List Warning). AddsSaid told.form (map said_of l) before new)
          c.as_slice-4.ensures.value c.in_ok-report_warnings.ensures;
    }
