-- those among the settings so far
use Rattle.std.proofs.Common.{take}
use Rattle.refspec_git.specs.Repository.{AreCounted}
use Rattle.refspec_git.proofs.repository.counted_in.Given as goal

abbrev pub invariant-loop-setting : goal.invariant-loop-setting
invariant-loop-setting l = AreCounted (take l.setting-index l.all) l.counted.items
