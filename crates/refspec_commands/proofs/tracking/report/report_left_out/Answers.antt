-- Each report keeps the results, except in JSON.
use Rattle.refspec_io.proofs.ShownLemmas.{KeepsReport-next, KeepsReport-same}
use Rattle.refspec_commands.proofs.tracking.report.report_left_out.Goals as goal

pub loop-remote-init : goal.loop-remote-init
loop-remote-init c = KeepsReport-same c.args.report.now

pub loop-spec-preserved : goal.loop-spec-preserved
loop-spec-preserved c = KeepsReport-next c.args.report.now c.loop-spec.report c.report_to_object.new.report
    c.loop-spec.invariant c.in_ok-report_to_object.ensures
