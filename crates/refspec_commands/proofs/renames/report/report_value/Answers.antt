-- In JSON there is an object; else the value after the renaming is a name that is shown.
use Rattle.std.proofs.Common.{Some, ap, option_map, refl, subst, sym, ◌∙◌}
use Rattle.bstr.specs.Owned.{bstring_bytes}
use Rattle.refspec_io.specs.declared.call.Form.{Form}
use Rattle.refspec_io.proofs.ShownLemmas.{on_ok}
use Rattle.refspec_commands.specs.Each.{AddsOne}
use Rattle.refspec_commands.specs.Renames.{IsReported}
use Rattle.refspec_commands.proofs.RemoteLemmas.{value_named}
use Rattle.refspec_commands.proofs.renames.report.report_value.Goals as goal

pub returns-in_ok-message-in-Json-clause-reported : goal.returns-in_ok-message-in-Json-clause-reported
returns-in_ok-message-in-Json-clause-reported c = on_ok c.write_object.result _ _ c.write_object.ensures
    (subst (λ (f : Form). AddsOne (IsReported f) c.args.value.now c.args.report.now.results.items
    c.write_object.new.out.items) (sym c.in-Json.is))

pub returns-in-Some-clause-reported : goal.returns-in-Some-clause-reported
returns-in-Some-clause-reported c = on_ok c.write_name.result _ _ c.write_name.ensures.reported
    (value_named c.args.report.now.form c.args.value.now (Some c.as_bytes.result.now) c.as_bytes.result.now
    c.args.report.now.results.items c.write_name.new.self.results.items c.in-Lines.is
    (ap (option_map bstring_bytes) c.in-Some.is ∙ ap Some (sym c.as_bytes.ensures)) refl)

pub returns-in_ok-write_unchanged-in-None-clause-reported : goal.returns-in_ok-write_unchanged-in-None-clause-reported
returns-in_ok-write_unchanged-in-None-clause-reported c =
    on_ok c.write_name-in-None.result _ _ c.write_name-in-None.ensures.reported
    (value_named c.args.report.now.form c.args.value.now _ c.args.value.now.text.now c.args.report.now.results.items
    c.write_name-in-None.new.self.results.items c.in-Lines.is (ap (option_map bstring_bytes) c.in-None.is) refl)
