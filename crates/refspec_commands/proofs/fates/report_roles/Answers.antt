-- The refs of the input are those of the question.
use Rattle.std.proofs.Common.{ℕ, [], ap, inr, map, refl, subst}
use Rattle.gix_refspec.specs.Views.Group.{ref_of}
use Rattle.refspec_io.specs.declared.report.Report.{Report}
use Rattle.refspec_io.specs.Refs.{ListsNames}
use Rattle.refspec_commands.specs.declared.fates.question.Question.{Question}
use Rattle.refspec_commands.specs.Locals.{AddsLocalAnswer, IsUnwritten, IsWritten}
use Rattle.refspec_commands.proofs.FateLemmas.{MatchBool-not}
use Rattle.refspec_commands.proofs.fates.report_roles.Goals as goal

pub returns : goal.returns
returns c =
    let task = c.args.task.now in
    let read = rw c.in-Some.is at c.in_ok-list.ensures in
    let refs = map ref_of c.in-Some.list.items.items in
    let question : Question = record {
      name = c.as_bytes.result;
      specs = c.args.specs;
      refs = c.as_slice.result;
      known = c.known_by.result;
    } in
    let answer = c.in_ok-answer.answer in
    let new = c.report_local_answer.new.report.results.items in
    inr (
      refs,
      subst (λ (n : ℕ). ListsNames n task.input.now refs []) c.end_of.ensures read.0,
      record {
        question = question;
        answer = answer;
        name = c.as_bytes.ensures.value;
        specs = refl;
        refs = ap (map ref_of) c.as_slice.ensures.value;
        known = c.known_by.ensures;
        answered = c.in_ok-answer.ensures;
        reported = subst (λ (r : Report). AddsLocalAnswer r.form question.name.now answer r.results.items new) read.1
            c.in_ok-report_local_answer.ensures;
        status = MatchBool-not c.is_written.result (IsWritten question.name.now answer)
            (IsUnwritten question.name.now answer) c.is_written.ensures;
      },
    )
