-- Of updates there are notes before the report and behind it.
use Rattle.std.proofs.Common.{◌≡◌, Bool, arith, subst, sym, true}
use Rattle.refspec_io.proofs.ShownLemmas.{KeepsReport-next, on_ok}
use Rattle.refspec_fetch.specs.Answer.{answer_of, asks_updates}
use Rattle.refspec_fetch.specs.Report.{report_of}
use Rattle.refspec_git.specs.Fetch.{AddsNoted}
use Rattle.refspec_git.proofs.FetchLemmas.{MayNote-of}
use Rattle.refspec_git.proofs.plan.report_noted.Goals as goal

pub returns : goal.returns
returns c =
    let a = c.args.answer.now in
    let old = c.args.report.now in
    let before = c.report_unmatched.new.report in
    let behind = c.report_answer-2.new.report in
    let noted = c.note_nothing.new.report in
    let new = c.report_unsure.new.report in
    let yes : asks_updates a.question.subject ≡ true =
    grind (arith, c.asks_updates.ensures, c.if-not-asks_updates.false, c.if-not-asks_updates.ensures) in
    on_ok c.report_unsure.result _ _ c.report_unsure.ensures (λ last. subst
    (λ (b : Bool). AddsNoted b c.args.fetch.now.style (answer_of a) (report_of old) (report_of new)) (sym yes) (
      report_of before,
      report_of behind,
      MayNote-of old before c.in_ok-report_unmatched.ensures,
      c.in_ok-report_answer.ensures,
      MayNote-of behind new (KeepsReport-next behind noted new c.in_ok-note_nothing.ensures last),
    ))
