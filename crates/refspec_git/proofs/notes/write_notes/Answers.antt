-- Each note leaves the results as they were; in JSON it may append to them.
use Rattle.refspec_io.proofs.ShownLemmas.{KeepsReport-next, KeepsReport-same}
use Rattle.refspec_git.proofs.notes.write_notes.Goals as goal

pub loop-name-init : goal.loop-name-init
loop-name-init c = KeepsReport-same c.args.report.now

pub loop-name-preserved : goal.loop-name-preserved
loop-name-preserved c = KeepsReport-next c.args.report.now c.loop-name.report c.write_note.new.report
    c.loop-name.invariant c.in_ok-write_note.ensures
