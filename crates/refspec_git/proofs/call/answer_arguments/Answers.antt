-- The arguments ask for something.
use Rattle.std.proofs.Common.{Bor, List, inr, map, ℕ}
use Rattle.refspec_git.specs.Call.{AnswersArguments, AnswersPurpose}
use Rattle.refspec_git.proofs.CallLemmas.{if_ok}
use Rattle.refspec_git.proofs.call.answer_arguments.Goals as goal

pub returns-in-Ok : goal.returns-in-Ok
returns-in-Ok g c =
    let w = g.M.Machine.world c.args.machine.now in
    if_ok (AnswersPurpose w c.in-Ok.purpose)
    (AnswersArguments w (map (λ (a : Bor (List ℕ)). a.now) c.args.arguments.now)) c.answer_purpose.result
    (λ a is. inr (c.in-Ok.purpose, c.in-Ok.ensures.ok, is)) c.answer_purpose.ensures
