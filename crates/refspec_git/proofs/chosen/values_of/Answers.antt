-- Each setting is a value, or none.
use Rattle.std.proofs.Common.{List, subst, sym, take, take_all}
use Rattle.std.proofs.lemmas.List.{take_more}
use Rattle.refspec_io.specs.declared.settings.Setting.{Setting}
use Rattle.refspec_git.specs.Chosen.{AreValuesOf}
use Rattle.refspec_git.proofs.chosen.values_of.Goals as goal

pub loop-setting-init : goal.loop-setting-init
loop-setting-init c = c.new-values.ensures.items

pub loop-setting-preserved : goal.loop-setting-preserved
loop-setting-preserved c =
    let settings = c.args.settings.now in
    let i = c.loop-setting.setting-index in
    subst (λ (l : List Setting). AreValuesOf c.args.remotes.now l c.add_value.new.values.items)
    (sym (take_more settings i _ c.loop-setting-test.true))
    (c.in_ok-add_value.ensures (take i settings) c.loop-setting.invariant)

pub returns : goal.returns
returns c = subst (λ (l : List Setting). AreValuesOf c.args.remotes.now l c.loop-setting.values.items)
    (take_all c.loop-setting.setting-index c.args.settings.now c.loop-setting-test.false) c.loop-setting.invariant
