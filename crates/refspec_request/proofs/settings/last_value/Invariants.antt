use Rattle.std.proofs.Common.{◌≡◌, option_map, take}
use Rattle.refspec_request.specs.Settings.{joined_key, settings_with, value_of_last}
use Rattle.refspec_request.proofs.settings.last_value.Given as goal

-- the value of the last setting so far
abbrev pub invariant-loop-setting : goal.invariant-loop-setting
invariant-loop-setting l =
    option_map (λ value. value.now) l.last
    ≡ value_of_last (settings_with (joined_key l.section l.name l.variable) (take l.setting-index l.settings))
