-- The branches are asked about, and what is found is reported.
use Rattle.std.proofs.Common.{List, inr, inl, subst}
use Rattle.std.proofs.lemmas.Result.{err_from_is_err_and}
use Rattle.std.specs.List.{AllZip}
use Rattle.refspec_git.specs.declared.branches.Branch.{Branch}
use Rattle.refspec_git.specs.Upstreams.{IsMergedBy}
use Rattle.refspec_git.proofs.UpstreamLemmas.{answers_upstream, from_empty}
use Rattle.refspec_git.proofs.upstreams.report_upstreams.Goals as goal

pub returns-clause-ok : goal.returns-clause-ok
returns-clause-ok c =
    let r = c.args.repository.now in
    let merged = c.in_ok-question.question.merged.items in
    let found = c.in_ok-answer.answer.found.items in
    answers_upstream r c.args.request.now c.in_ok-branches.branches.items merged found c.report_answer.new.report
    c.status.result c.reports.result c.in_ok-branches.ensures.ok
    (subst (λ (l : List Branch). AllZip (IsMergedBy r.settings.now) l merged) c.as_slice.ensures.value
    (c.in_ok-question.ensures r.settings.now c.in_ok-specs.ensures))
    c.in_ok-answer.ensures
    (from_empty found c.args.request.now.form c.new-report.result c.report_answer.new.report.results.items
    c.new-report.ensures.form
    c.new-report.ensures.empty c.in_ok-report_answer.ensures)
    c.status.ensures c.reports.ensures

pub returns-in_err-branches-clause-refused : goal.returns-in_err-branches-clause-refused
returns-in_err-branches-clause-refused c =
    let q = err_from_is_err_and c.from_residual.result c.from_residual.ensures.1 in
    rw (q.1, q.2) c.in_err-branches.ensures.refused

pub returns-in_err-specs-clause-refused : goal.returns-in_err-specs-clause-refused
returns-in_err-specs-clause-refused c =
    let q = err_from_is_err_and c.from_residual-in_err-specs.result c.from_residual-in_err-specs.ensures.1 in
    rw q.1 (inr (inl (inl q.2)))

pub returns-in_err-question-clause-refused : goal.returns-in_err-question-clause-refused
returns-in_err-question-clause-refused c =
    let q = err_from_is_err_and c.from_residual-in_err-question.result c.from_residual-in_err-question.ensures.1 in
    rw q.1 (inr (inl (inl q.2)))

pub returns-in_err-answer-clause-refused : goal.returns-in_err-answer-clause-refused
returns-in_err-answer-clause-refused c =
    let q = err_from_is_err_and c.from_residual-in_err-answer.result c.from_residual-in_err-answer.ensures.1 in
    rw q.1 (inr (inl (inl q.2)))

pub returns-in_err-report_answer-clause-refused : goal.returns-in_err-report_answer-clause-refused
returns-in_err-report_answer-clause-refused c =
    let q = err_from_is_err_and c.from_residual-in_err-report_answer.result
    c.from_residual-in_err-report_answer.ensures.1 in
    rw q.1 (inr (inl (inl q.2)))
