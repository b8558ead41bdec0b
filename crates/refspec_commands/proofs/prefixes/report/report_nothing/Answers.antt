-- In JSON the report is an object; else it is a line, or nothing.
use Rattle.std.proofs.Common.{subst, sym}
use Rattle.refspec_io.specs.declared.call.Form.{Form}
use Rattle.refspec_io.proofs.ShownLemmas.{on_ok}
use Rattle.refspec_commands.specs.Prefixes.{AddsNothing}
use Rattle.refspec_commands.proofs.prefixes.report.report_nothing.Goals as goal

pub returns-in-Json : goal.returns-in-Json
returns-in-Json c = on_ok c.write_nothing.result _ _ c.write_nothing.ensures
    (subst (λ (f : Form). AddsNothing f c.args.report.now.results.items c.write_nothing.new.out.items)
    (sym c.in-Json.is))
