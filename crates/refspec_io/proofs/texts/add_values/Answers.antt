-- Each setting adds its refspec, if it has one.
use Rattle.std.proofs.Common.{map}
use Rattle.refspec_io.specs.Texts.{given_of}
use Rattle.refspec_io.proofs.SettingLemmas.{AddsValues-all, AddsValues-next, AddsValues-none}
use Rattle.refspec_io.proofs.texts.add_values.Goals as goal

pub loop-setting-init : goal.loop-setting-init
loop-setting-init c = AddsValues-none (map given_of c.args.texts.now.items)

pub loop-setting-preserved : goal.loop-setting-preserved
loop-setting-preserved c = AddsValues-next c.args.settings.now c.loop-setting.setting-index _
    (map given_of c.args.texts.now.items) (map given_of c.loop-setting.texts.items)
    (map given_of c.add_value.new.texts.items) c.loop-setting-test.true c.loop-setting.invariant
    c.in_ok-add_value.ensures

pub returns : goal.returns
returns c = AddsValues-all c.args.settings.now c.loop-setting.setting-index (map given_of c.args.texts.now.items)
    (map given_of c.loop-setting.texts.items) c.loop-setting-test.false c.loop-setting.invariant
