-- The output is the report on the checked texts, or on the keys without a value.
use Rattle.std.proofs.Common.{ℕ, List, refl, sym, subst}
use Rattle.refspec_io.specs.Settings.{AreSettingsOf, HasLacking}
use Rattle.refspec_io.specs.declared.settings.Setting.{Setting}
use Rattle.refspec_commands.proofs.OutputLemmas.{IsOutput-lacking, IsOutput-of}
use Rattle.refspec_commands.proofs.run.report_of.Goals as goal

pub returns-clause-ok : goal.returns-clause-ok
returns-clause-ok c =
    let call = c.args.job.now.call.now in
    let specs = c.args.job.now.files.now.specs.now in
    let read = subst (λ (x : List ℕ). AreSettingsOf call.ends specs x c.in_ok-settings.settings.items)
    c.spec_input-specs.ensures c.in_ok-settings.ensures.ok in
    let none : ¬ (HasLacking c.as_slice.result.now) = rw c.if-has_lacking.false at c.has_lacking.ensures in
    let has = subst (λ (l : List Setting). ¬ (HasLacking l)) c.as_slice.ensures.value none in
    let lent = subst (AreSettingsOf call.ends specs _) (sym c.as_slice-2.ensures.value) read in
    let texts = c.in_ok-texts.ensures lent in
    IsOutput-of call c.args.job.now.files.now c.args.input.now _ c.as_slice-3.result.now c.in_ok-texts.texts.all.items
    c.report_results.new.report c.in_ok-refused.refused (c.in_ok-settings.settings.items, read, has) texts.0
    (record { calls = refl; reads = refl; local = refl; given = texts.1 }) c.as_slice-3.ensures.value
    (c.in_ok-refused.ensures (record {
      form = c.new-report.ensures.form;
      results = c.new-report.ensures.empty;
      messages = c.new-report.ensures.no_message;
    }))

pub returns-then-has_lacking-clause-ok : goal.returns-then-has_lacking-clause-ok
returns-then-has_lacking-clause-ok c =
    let call = c.args.job.now.call.now in
    let specs = c.args.job.now.files.now.specs.now in
    let read = subst (λ (x : List ℕ). AreSettingsOf call.ends specs x c.in_ok-settings.settings.items)
    c.spec_input-specs.ensures c.in_ok-settings.ensures.ok in
    let lacks : HasLacking c.as_slice.result.now = rw c.if-has_lacking.true at c.has_lacking.ensures in
    IsOutput-lacking call c.args.job.now.files.now c.args.input.now c.in_ok-settings.settings.items c.new-report.result
    c.refuse_lacking.new.report read (subst HasLacking c.as_slice.ensures.value lacks) c.new-report.ensures.form
    c.new-report.ensures.empty c.in_ok-refuse_lacking.ensures
