-- There are reasons or none.
use Rattle.std.proofs.Common.{map}
use Rattle.gix_refspec.specs.Views.Spec.{reading_of}
use Rattle.refspec_io.proofs.ShownLemmas.{on_ok}
use Rattle.refspec_commands.proofs.PrefixLemmas.{AddsWhole-none, AddsWhole-of, no_reasons, some_reasons}
use Rattle.refspec_commands.proofs.prefixes.report.report_whole.Goals as goal

pub returns-then-is_empty : goal.returns-then-is_empty
returns-then-is_empty c = on_ok c.report_too_many.result _ _ c.report_too_many.ensures
    (λ reported. AddsWhole-none c.args.notation c.args.report.now.form (map reading_of c.args.reasons.now)
    c.args.report.now.results.items c.report_too_many.new.report.results.items
    (no_reasons c.args.reasons.now c.if-is_empty.ensures) reported)

pub returns : goal.returns
returns c = on_ok c.report_all.result _ _ c.report_all.ensures
    (AddsWhole-of c.args.notation c.args.report.now.form (map reading_of c.args.reasons.now)
    c.args.report.now.results.items c.report_all.new.report.results.items
    (some_reasons c.args.reasons.now c.if-is_empty.ensures))
