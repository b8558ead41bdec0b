-- the prefixes so far were reported
use Rattle.std.proofs.Common.{◌≡◌, map, take}
use Rattle.bstr.specs.Owned.{bstring_bytes}
use Rattle.refspec_commands.specs.Prefixes.{AddsRequests}
use Rattle.refspec_commands.proofs.prefixes.report.report_each.Given as goal

abbrev pub invariant-loop-prefix : goal.invariant-loop-prefix
invariant-loop-prefix l = record {
  form : l.report.form ≡ l.fn.report.form;
  reported : AddsRequests l.notation l.fn.report.form (map bstring_bytes (take l.prefix-index l.prefixes))
      l.fn.report.results.items l.report.results.items;
}
