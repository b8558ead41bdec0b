-- the specs of the settings so far
use Rattle.std.proofs.Common.{take}
use Rattle.refspec_git.specs.Upstreams.{AreSpecsBy}
use Rattle.refspec_git.proofs.upstreams.specs_by_remote.Given as goal

abbrev pub invariant-loop-setting : goal.invariant-loop-setting
invariant-loop-setting l = AreSpecsBy (take l.setting-index l.settings) l.specs
