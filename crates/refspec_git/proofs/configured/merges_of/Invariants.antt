-- the values of the settings so far
use Rattle.std.proofs.Common.{◌≡◌, [], map, take, unwrap_or}
use Rattle.refspec_request.specs.Settings.{value_in}
use Rattle.refspec_git.proofs.configured.merges_of.Given as goal

abbrev pub invariant-loop-setting : goal.invariant-loop-setting
invariant-loop-setting l =
    map (λ m. m.now) l.merges.items
    ≡ map (λ s. unwrap_or (value_in s) []) (take l.setting-index l.setting-items)
