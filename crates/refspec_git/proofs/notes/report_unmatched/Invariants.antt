-- the results are as they were; in JSON objects may have been appended
use Rattle.refspec_io.specs.Shown.{KeepsReport}
use Rattle.refspec_git.proofs.notes.report_unmatched.Given as goal

abbrev pub invariant-loop-one : goal.invariant-loop-one
invariant-loop-one l = KeepsReport l.fn.report l.report
