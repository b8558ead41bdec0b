-- The command is another than `check`.
use Rattle.refspec_git.specs.Call.{AnswersIn, AnswersUsable}
use Rattle.refspec_git.proofs.CallLemmas.{answers_in, if_ok}
use Rattle.refspec_git.proofs.call.answer_in.Goals as goal

pub returns-clause-ok : goal.returns-clause-ok
returns-clause-ok g c =
    let w = g.M.Machine.world c.args.machine.now in
    let r = c.args.repository.now in
    let request = c.args.request.now in
    if_ok (AnswersUsable r request) (AnswersIn w r request) c.answer_usable.result
    (answers_in w r request c.if-is_check.ensures) c.answer_usable.ensures.ok
