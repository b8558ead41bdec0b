-- the roles so far were reported
use Rattle.std.proofs.Common.{◌≡◌, map, take}
use Rattle.bstr.specs.Owned.{bstring_bytes}
use Rattle.refspec_commands.specs.Each.{AddsEach}
use Rattle.refspec_commands.specs.Locals.{IsPart, names_of, parts_from}
use Rattle.refspec_commands.proofs.fates.role_report.report_parts.Given as goal

abbrev pub invariant-loop-index : goal.invariant-loop-index
invariant-loop-index l = record {
  form : l.report.form ≡ l.fn.report.form;
  reported : AddsEach (IsPart l.fn.report.form l.parts.names.question.now.name.now)
      (parts_from 0 (map bstring_bytes l.parts.names.texts.now) (names_of l.parts.sources.now)
      (take l.index l.roles)) l.fn.report.results.items l.report.results.items;
}
