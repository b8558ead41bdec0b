-- the results are as they were; in JSON objects may have been appended
use Rattle.refspec_io.specs.Shown.{KeepsReport}
use Rattle.refspec_git.proofs.notes.write_notes.Given as goal

abbrev pub invariant-loop-name : goal.invariant-loop-name
invariant-loop-name l = KeepsReport l.fn.report l.report
