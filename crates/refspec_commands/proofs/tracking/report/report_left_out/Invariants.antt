-- the results are as they were, except in JSON
use Rattle.refspec_io.specs.Shown.{KeepsReport}
use Rattle.refspec_commands.proofs.tracking.report.report_left_out.Given as goal

abbrev pub invariant-loop-remote : goal.invariant-loop-remote
invariant-loop-remote l = KeepsReport l.fn.report l.report

abbrev pub invariant-loop-spec : goal.invariant-loop-spec
invariant-loop-spec l = KeepsReport l.fn.report l.report
