-- The specs are those that the request maps refs by.
use Rattle.std.proofs.Common.{refl}
use Rattle.refspec_git.proofs.AnswerLemmas.{empty_report, fetch_reported}
use Rattle.refspec_git.proofs.fetch.report_fetch.Goals as goal

pub returns-clause-ok : goal.returns-clause-ok
returns-clause-ok g c =
    fetch_reported c.args.repository.now c.args.request.now c.args.choice.now _ c.new-report.result
    c.report_on.new.report
    c.in_ok-status.status c.reports.result c.in_ok-specs.ensures.ok c.subject_of-subject.ensures refl c.limit_of.ensures
    (empty_report c.new-report.result c.args.request.now.form c.new-report.ensures.form c.new-report.ensures.empty
    c.new-report.ensures.no_message) c.in_ok-status.ensures c.reports.ensures
