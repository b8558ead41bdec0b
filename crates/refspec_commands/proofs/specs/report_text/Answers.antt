-- A text is refused, or the canonical text of its spec is shown.
use Rattle.std.proofs.Common.{◌≡◌, Some, ap, ◌∙◌}
use Rattle.refspec_io.proofs.ShownLemmas.{on_ok}
use Rattle.refspec_commands.proofs.CanonLemmas.{AddsShown-bad, AddsShown-canonical}
use Rattle.refspec_commands.proofs.specs.report_text.Goals as goal

pub returns-in-Bad-clause-reported : goal.returns-in-Bad-clause-reported
returns-in-Bad-clause-reported c = on_ok c.report_refusal.result _ _ c.report_refusal.ensures.object (AddsShown-bad
    c.args.kind c.args.report.now.form c.args.checked.now _ _ c.args.report.now.results.items
    c.report_refusal.new.self.results.items c.in-Bad.is)

pub returns-in-Some-Canonical-clause-reported : goal.returns-in-Some-Canonical-clause-reported
returns-in-Some-Canonical-clause-reported c =
    let some : c.args.kind ≡ Some c.in-Some-Canonical.field-0 = c.in-Some-Canonical.is in
    on_ok c.report_canonical.result _ _ c.report_canonical.ensures.reported
    (AddsShown-canonical c.args.kind c.args.report.now.form c.args.checked.now _ _ c.args.report.now.results.items
    c.report_canonical.new.report.results.items (some ∙ ap Some (rw some at c.in-Some-Canonical.field-0-is))
    c.in-Good.is)
