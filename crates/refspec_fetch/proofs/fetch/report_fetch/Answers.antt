-- The answer is that to the question of the task.
use Rattle.std.proofs.Common.{map}
use Rattle.gix_refspec.specs.Views.Spec.{reading_of}
use Rattle.refspec_fetch.proofs.FetchLemmas.{AddsFetch-of, listed-same}
use Rattle.refspec_fetch.proofs.fetch.report_fetch.Goals as goal

pub returns : goal.returns
returns c =
    let task = c.args.task.now in
    let listed = rw c.in-Some.is at c.in_ok-lists.ensures in
    let asks = c.question_of-question.ensures in
    AddsFetch-of task (map reading_of c.args.specs.now) c.status-status.result c.question_of-question.result
    c.in_ok-answer.answer
    c.style_of.result c.args.report.now c.lists_in.new.report c.report_answer.new.report
    (record {
      subject = asks.subject;
      wish = asks.wish;
      listed = listed-same task _ _ _ _ _ _ asks.refs asks.local asks.unread listed.0;
    })
    c.in_ok-answer.ensures.0 c.in_ok-answer.ensures.1 c.status-status.ensures c.style_of.ensures listed.1
    c.in_ok-report_answer.ensures
