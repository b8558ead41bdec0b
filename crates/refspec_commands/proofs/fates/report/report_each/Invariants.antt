-- the effects so far were reported
use Rattle.std.proofs.Common.{◌≡◌, map, take}
use Rattle.bstr.specs.Owned.{bstring_bytes}
use Rattle.refspec_commands.specs.Each.{AddsEach}
use Rattle.refspec_commands.specs.Fates.{IsVerdict, verdicts_from}
use Rattle.refspec_commands.proofs.fates.report.report_each.Given as goal

abbrev pub invariant-loop-index : goal.invariant-loop-index
invariant-loop-index l = record {
  form : l.report.form ≡ l.fn.report.form;
  reported : AddsEach (IsVerdict l.fn.report.form l.names.question.now.name.now)
      (verdicts_from 0 (map bstring_bytes l.names.texts.now) (take l.index l.effects)) l.fn.report.results.items
      l.report.results.items;
}
