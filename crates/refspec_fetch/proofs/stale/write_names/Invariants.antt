-- the names so far were written
use Rattle.std.proofs.Common.{◌≡◌, map, take}
use Rattle.refspec_io.specs.Shown.{AddsNames}
use Rattle.refspec_fetch.proofs.stale.write_names.Given as goal

abbrev pub invariant-loop-name : goal.invariant-loop-name
invariant-loop-name l = record {
  form : l.report.form ≡ l.fn.report.form;
  reported : AddsNames l.fn.report.form l.before (map (λ n. n.now) (take l.name-index l.names))
      l.fn.report.results.items l.report.results.items;
}
