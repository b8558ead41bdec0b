-- Each setting leaves the results as they were; in JSON it may append to them.
use Rattle.refspec_io.proofs.ShownLemmas.{KeepsReport-next, KeepsReport-same}
use Rattle.refspec_io.proofs.lacking.refuse_lacking.Goals as goal

pub loop-setting-init : goal.loop-setting-init
loop-setting-init c = KeepsReport-same c.args.report.now

pub loop-setting-preserved : goal.loop-setting-preserved
loop-setting-preserved c = KeepsReport-next c.args.report.now c.loop-setting.report c.refuse_key.new.report
    c.loop-setting.invariant c.in_ok-refuse_key.ensures
