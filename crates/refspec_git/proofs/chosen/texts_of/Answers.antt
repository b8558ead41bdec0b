-- Each setting adds its spec, if it has one.
use Rattle.std.proofs.Common.{[], ap, map}
use Rattle.refspec_io.specs.Texts.{given_of}
use Rattle.refspec_io.proofs.SettingLemmas.{AddsValues-all, AddsValues-next}
use Rattle.refspec_git.proofs.ChosenLemmas.{values_alone, values_none}
use Rattle.refspec_git.proofs.chosen.texts_of.Goals as goal

pub loop-setting-init : goal.loop-setting-init
loop-setting-init c =
    values_none (map given_of c.in_ok-texts.texts.items) (ap (map given_of) c.in_ok-texts.ensures.items)

pub loop-setting-preserved : goal.loop-setting-preserved
loop-setting-preserved c = AddsValues-next c.args.values.now c.loop-setting.setting-index _ []
    (map given_of c.loop-setting.texts.items) (map given_of c.add_text.new.texts.items) c.loop-setting-test.true
    c.loop-setting.invariant c.in_ok-add_text.ensures

pub returns : goal.returns
returns c = values_alone c.args.values.now (map given_of c.loop-setting.texts.items) (AddsValues-all c.args.values.now
    c.loop-setting.setting-index [] (map given_of c.loop-setting.texts.items) c.loop-setting-test.false
    c.loop-setting.invariant)
