-- What is asked is answered, and reported; a warning fails a strict call.
use Rattle.std.proofs.Common.{Bool, refl, subst, sym}
use Rattle.refspec_commands.specs.declared.checking.Question.{Question}
use Rattle.refspec_commands.proofs.OutputLemmas.{EndsCheck, ShowsCheck-of}
use Rattle.refspec_commands.proofs.run.report_check.Goals as goal

pub returns-then-call-2 : goal.returns-then-call-2
returns-then-call-2 c empty =
    let call = c.args.call.now in
    let answer = c.in_ok-answer.answer in
    let q : Question = record {
      texts = c.args.texts;
      beside = c.new.result;
      warns = call.warns;
      form = c.args.report.now.form;
    } in
    ShowsCheck-of call q answer _ c.args.report.now c.report_answer.new.report c.strict_status.result empty refl refl
    c.new.ensures.empty c.in_ok-answer.ensures c.in_ok-report_answer.ensures
    (subst (λ (b : Bool). EndsCheck b answer c.strict_status.result) (sym c.if-call-2.true) c.strict_status.ensures)

pub returns : goal.returns
returns c empty =
    let call = c.args.call.now in
    let answer = c.in_ok-answer.answer in
    let q : Question = record {
      texts = c.args.texts;
      beside = c.new.result;
      warns = call.warns;
      form = c.args.report.now.form;
    } in
    ShowsCheck-of call q answer _ c.args.report.now c.report_answer.new.report c.status.result empty refl refl
    c.new.ensures.empty c.in_ok-answer.ensures c.in_ok-report_answer.ensures
    (subst (λ (b : Bool). EndsCheck b answer c.status.result) (sym c.if-call-2.false) c.status.ensures)
