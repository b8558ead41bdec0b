-- what stands for all refs was written, and the reasons so far
use Rattle.std.proofs.Common.{◌≡◌, map, take}
use Rattle.gix_refspec.specs.Views.Spec.{reading_of}
use Rattle.refspec_commands.specs.Prefixes.{AddsAll}
use Rattle.refspec_commands.proofs.prefixes.report.report_all.Given as goal

abbrev pub invariant-loop-spec : goal.invariant-loop-spec
invariant-loop-spec l = record {
  form : l.report.form ≡ l.fn.report.form;
  reported : AddsAll l.fn.notation l.fn.report.form (map reading_of (take l.spec-index l.reasons))
      l.fn.report.results.items l.report.results.items;
}
