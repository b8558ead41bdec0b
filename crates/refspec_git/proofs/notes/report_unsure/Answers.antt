-- Each kind of notes leaves the results as they were; in JSON it may append to them.
use Rattle.refspec_io.proofs.ShownLemmas.{KeepsReport-next, on_ok}
use Rattle.refspec_git.proofs.notes.report_unsure.Goals as goal

pub returns : goal.returns
returns c =
    let old = c.args.report.now in
    let first = c.write_notes.new.report in
    let second = c.write_notes-2.new.report in
    let third = c.write_notes-3.new.report in
    let fourth = c.write_notes-4.new.report in
    let before = KeepsReport-next old first second c.in_ok-write_notes.ensures c.in_ok-write_notes-2.ensures in
    on_ok c.write_notes-4.result _ _ c.write_notes-4.ensures (KeepsReport-next old third fourth
    (KeepsReport-next old second third before c.in_ok-write_notes-3.ensures))
