-- none of the settings so far lacks its value
use Rattle.std.proofs.Common.{take}
use Rattle.refspec_io.specs.Settings.{HasLacking}
use Rattle.refspec_io.proofs.settings.has_lacking.Given as goal

abbrev pub invariant-loop-setting : goal.invariant-loop-setting
invariant-loop-setting l = ¬ (HasLacking (take l.setting-index l.settings))
