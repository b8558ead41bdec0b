-- behind the rows the results are as they were, except in JSON
use Rattle.refspec_io.specs.Shown.{KeepsReport}
use Rattle.refspec_commands.proofs.tracking.report.report_answer.Given as goal

abbrev pub invariant-loop-looked : goal.invariant-loop-looked
invariant-loop-looked l = KeepsReport l.initial.report l.report
