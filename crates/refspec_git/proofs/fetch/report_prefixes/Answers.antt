-- The specs are those of the chosen remote.
use Rattle.refspec_git.proofs.AnswerLemmas.{empty_report}
use Rattle.refspec_git.proofs.AskedLemmas.{prefixes_reported}
use Rattle.refspec_git.proofs.fetch.report_prefixes.Goals as goal

pub returns-clause-ok : goal.returns-clause-ok
returns-clause-ok c =
    prefixes_reported c.args.repository.now c.args.request.now c.args.choice.now _ c.notation_of-notation.result
    c.new-report.result c.report_asked.new.report c.in_ok-status.status c.reports.result c.in_ok-specs.ensures.ok
    c.notation_of-notation.ensures
    (empty_report c.new-report.result c.args.request.now.form c.new-report.ensures.form c.new-report.ensures.empty
    c.new-report.ensures.no_message) c.in_ok-status.ensures c.reports.ensures
