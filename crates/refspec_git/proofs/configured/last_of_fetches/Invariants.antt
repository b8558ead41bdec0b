-- the last of the settings so far
use Rattle.std.proofs.Common.{◌≡◌, codes, take}
use Rattle.refspec_request.specs.Settings.{settings_with}
use Rattle.refspec_git.specs.Configured.{last_of}
use Rattle.refspec_git.proofs.configured.last_of_fetches.Given as goal

abbrev pub invariant-loop-setting : goal.invariant-loop-setting
invariant-loop-setting l =
    l.last ≡ last_of (settings_with (codes "fetch.prunetags") (take l.setting-index l.settings))
