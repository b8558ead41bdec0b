-- the values are those among the settings so far
use Rattle.std.proofs.Common.{take}
use Rattle.refspec_git.specs.Chosen.{AreValuesOf}
use Rattle.refspec_git.proofs.chosen.values_of.Given as goal

abbrev pub invariant-loop-setting : goal.invariant-loop-setting
invariant-loop-setting l = AreValuesOf l.remotes (take l.setting-index l.settings) l.values.items
