-- One more setting is added.
use Rattle.std.proofs.Common.{subst, sym, take}
use Rattle.std.proofs.lemmas.List.{take_more}
use Rattle.refspec_request.specs.Remotes.{AreValuesBy}
use Rattle.refspec_request.proofs.remotes.values_by_name.Goals as goal

pub loop-setting-preserved : goal.loop-setting-preserved
loop-setting-preserved c =
    let all = c.args.settings.now in
    let i = c.loop-setting.setting-index in
    subst (λ l. AreValuesBy c.args.section.now c.args.variable.now l c.add_setting.new.values)
    (sym (take_more all i _ c.loop-setting-test.true))
    (c.in_ok-add_setting.ensures (take i all) c.loop-setting.invariant)
