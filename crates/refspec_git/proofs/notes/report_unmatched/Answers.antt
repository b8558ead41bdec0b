-- Each note leaves the results as they were; in JSON it may append to them.
use Rattle.refspec_io.proofs.ShownLemmas.{KeepsReport-next, KeepsReport-same}
use Rattle.refspec_git.proofs.notes.report_unmatched.Goals as goal

pub loop-one-init : goal.loop-one-init
loop-one-init c = KeepsReport-same c.args.report.now

pub loop-one-preserved : goal.loop-one-preserved
loop-one-preserved c = KeepsReport-next c.args.report.now c.loop-one.report c.write_note.new.report
    c.loop-one.invariant c.in_ok-write_note.ensures
