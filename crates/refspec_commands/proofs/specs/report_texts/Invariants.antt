-- the texts so far were reported
use Rattle.std.proofs.Common.{◌≡◌, take}
use Rattle.refspec_io.specs.Messages.{ReportsRefusals}
use Rattle.refspec_commands.specs.Canon.{AddsShown}
use Rattle.refspec_commands.proofs.specs.report_texts.Given as goal

abbrev pub invariant-loop-checked : goal.invariant-loop-checked
invariant-loop-checked l = record {
  form : l.report.form ≡ l.fn.report.form;
  reported : AddsShown l.kind l.fn.report.form (take l.checked-index l.all) l.fn.report.results.items
      l.report.results.items;
  refused : ReportsRefusals l.fn.report.form (take l.checked-index l.all) l.fn.report.messages.items
      l.report.messages.items;
}
