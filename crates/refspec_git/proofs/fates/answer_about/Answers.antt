-- The refs of the remote are asked for, or the report is made.
use Rattle.refspec_git.proofs.AnswerLemmas.{empty_report}
use Rattle.refspec_git.proofs.FateLemmas.{about_reported}
use Rattle.refspec_git.proofs.fates.answer_about.Goals as goal

pub returns-clause-ok : goal.returns-clause-ok
returns-clause-ok g c =
    let about = c.args.about.now in
    about_reported c.args.repository.now c.args.request.now.form about.name.now about.choice c.in_ok-specs.specs
    _ c.new-report.result c.report_on.new.report c.in_ok-status.status c.reports.result
    c.in_ok-specs.ensures.ok
    (empty_report c.new-report.result c.args.request.now.form c.new-report.ensures.form c.new-report.ensures.empty
    c.new-report.ensures.no_message) c.in_ok-status.ensures c.reports.ensures
