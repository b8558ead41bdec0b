-- Git passes the settings so far
use Rattle.std.proofs.Common.{take}
use Rattle.std.specs.List.{All}
use Rattle.refspec_git.specs.Stops.{Passes}
use Rattle.refspec_git.proofs.stops.bad_setting.Given as goal

abbrev pub invariant-loop-setting : goal.invariant-loop-setting
invariant-loop-setting l = All (Passes l.command) (take l.setting-index l.settings)
