-- A setting that lacks its value is found at its index.
use Rattle.refspec_io.proofs.SettingLemmas.{HasLacking-at, none_lacking_all, none_lacking_next}
use Rattle.refspec_io.proofs.settings.has_lacking.Goals as goal

pub returns-then-lacks_value : goal.returns-then-lacks_value
returns-then-lacks_value c = HasLacking-at c.args.settings.now c.loop-setting.setting-index _ c.loop-setting-test.true
    (rw c.if-lacks_value.true at c.lacks_value.ensures)

pub loop-setting-preserved : goal.loop-setting-preserved
loop-setting-preserved c = none_lacking_next c.args.settings.now c.loop-setting.setting-index _ c.loop-setting-test.true
    (rw c.if-lacks_value.false at c.lacks_value.ensures) c.loop-setting.invariant

pub returns : goal.returns
returns c = none_lacking_all c.args.settings.now c.loop-setting.setting-index c.loop-setting-test.false
    c.loop-setting.invariant
