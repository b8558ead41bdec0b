use Rattle.std.proofs.Common.{take}
use Rattle.refspec_request.specs.Remotes.{AreValuesBy}
use Rattle.refspec_request.proofs.remotes.values_by_name.Given as goal

-- the values so far
abbrev pub invariant-loop-setting : goal.invariant-loop-setting
invariant-loop-setting l = AreValuesBy l.section l.variable (take l.setting-index l.settings) l.values
