use Rattle.std.proofs.Common.{◌≡◌, take}
use Rattle.refspec_request.specs.Settings.{joined_key, settings_with}
use Rattle.refspec_request.proofs.settings.settings_named.Given as goal

-- the settings so far
abbrev pub invariant-loop-setting : goal.invariant-loop-setting
invariant-loop-setting l =
    l.found.items ≡ settings_with (joined_key l.section l.name l.variable) (take l.setting-index l.settings)
