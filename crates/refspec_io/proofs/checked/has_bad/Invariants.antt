-- the texts so far are specs
use Rattle.std.proofs.Common.{take}
use Rattle.refspec_io.specs.Read.{AreGood}
use Rattle.refspec_io.proofs.checked.has_bad.Given as goal

abbrev pub invariant-loop-checked : goal.invariant-loop-checked
invariant-loop-checked l = AreGood (take l.checked-index l.all)
