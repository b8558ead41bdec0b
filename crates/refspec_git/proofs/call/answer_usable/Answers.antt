-- A value of some remote is refused.
use Rattle.std.proofs.Common.{inl}
use Rattle.refspec_git.proofs.call.answer_usable.Goals as goal

pub returns-in-Some-clause-ok : goal.returns-in-Some-clause-ok
returns-in-Some-clause-ok g c =
    let found = c.in_ok-report.ensures in
    inl (found.0, c.in-Some.report, found.1, rw c.in-Some.is at found.2, c.reports.ensures)
