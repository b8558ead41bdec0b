-- In JSON the report is an object; else the results stay as they were.
use Rattle.std.proofs.Common.{subst, sym}
use Rattle.refspec_io.specs.declared.call.Form.{Form}
use Rattle.refspec_io.proofs.ShownLemmas.{on_ok}
use Rattle.refspec_commands.specs.Each.{AddsOne}
use Rattle.refspec_commands.specs.UpstreamViews.{IsLackOf}
use Rattle.refspec_commands.proofs.EachLemmas.{ok_always}
use Rattle.refspec_commands.proofs.UpstreamLemmas.{lack_unsaid}
use Rattle.refspec_commands.proofs.upstreams.report.report_lack.Goals as goal

pub returns-in-Json-clause-reported : goal.returns-in-Json-clause-reported
returns-in-Json-clause-reported c = on_ok c.write_lack.result _ _ c.write_lack.ensures
    (subst (λ (f : Form). AddsOne (IsLackOf f) c.args.lack.now c.args.report.now.results.items
    c.write_lack.new.out.items) (sym c.in-Json.is))

pub returns-clause-reported : goal.returns-clause-reported
returns-clause-reported c = ok_always c.write_indented.result _ (lack_unsaid c.args.report.now.form c.args.lack.now
    c.args.report.now.results.items c.in-Lines.is)
