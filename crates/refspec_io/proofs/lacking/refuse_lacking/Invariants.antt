-- the results are as they were; in JSON objects may have been appended
use Rattle.refspec_io.specs.Shown.{KeepsReport}
use Rattle.refspec_io.proofs.lacking.refuse_lacking.Given as goal

abbrev pub invariant-loop-setting : goal.invariant-loop-setting
invariant-loop-setting l = KeepsReport l.fn.report l.report
