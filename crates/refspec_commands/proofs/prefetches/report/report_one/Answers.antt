-- In JSON there is an object; else the text that is applied is a name that is shown.
use Rattle.std.proofs.Common.{Some, ap, option_map, subst, sym, ◌∙◌}
use Rattle.bstr.specs.Owned.{bstring_bytes}
use Rattle.refspec_io.specs.declared.call.Form.{Form}
use Rattle.refspec_io.proofs.ShownLemmas.{on_ok}
use Rattle.refspec_commands.specs.Each.{AddsOne}
use Rattle.refspec_commands.specs.Prefetches.{IsReported}
use Rattle.refspec_commands.proofs.EachLemmas.{ok_always}
use Rattle.refspec_commands.proofs.RemoteLemmas.{applied_named, ignored_unsaid}
use Rattle.refspec_commands.proofs.prefetches.report.report_one.Goals as goal

pub returns-in-Json-clause-reported : goal.returns-in-Json-clause-reported
returns-in-Json-clause-reported c = on_ok c.write_object.result _ _ c.write_object.ensures
    (subst (λ (f : Form). AddsOne (IsReported f) c.args.one.now c.args.report.now.results.items
    c.write_object.new.out.items) (sym c.in-Json.is))

pub returns-in-Some-clause-reported : goal.returns-in-Some-clause-reported
returns-in-Some-clause-reported c = on_ok c.write_name.result _ _ c.write_name.ensures.reported
    (applied_named c.args.report.now.form c.args.one.now c.as_bytes.result.now c.args.report.now.results.items
    c.write_name.new.self.results.items c.in-Lines.is
    (ap (option_map bstring_bytes) c.in-Some.is ∙ ap Some (sym c.as_bytes.ensures)))

pub returns-in-None-clause-reported : goal.returns-in-None-clause-reported
returns-in-None-clause-reported c = ok_always c.write_ignored.result _ (ignored_unsaid c.args.report.now.form
    c.args.one.now c.args.report.now.results.items c.in-Lines.is (ap (option_map bstring_bytes) c.in-None.is))
