-- The chosen remote has a file of its own, or the request about it is answered.
use Rattle.std.proofs.Common.{inl, inr}
use Rattle.refspec_git.specs.Call.{AnswersChoice, AnswersFetching, RefusesAbout, RefusesFetching, StopsWith}
use Rattle.refspec_git.proofs.CallLemmas.{if_ok, if_stopped}
use Rattle.refspec_git.proofs.call.answer_fetching.Goals as goal

pub returns-in-Some-clause-refused : goal.returns-in-Some-clause-refused
returns-in-Some-clause-refused g c =
    (c.if-fetches_nothing.ensures, inr (c.in_ok-choice.choice, c.in_ok-choice.ensures.ok, inl c.in-Some.ensures))

pub returns-clause-ok : goal.returns-clause-ok
returns-clause-ok g c =
    let r = c.args.repository.now in
    let request = c.args.request.now in
    let choice = c.in_ok-choice.choice in
    if_ok (AnswersChoice r request choice) (AnswersFetching r request) c.answer_choice.result
    (λ a is. inr (c.if-fetches_nothing.ensures, choice, c.in_ok-choice.ensures.ok, c.in_default.ensures, is))
    c.answer_choice.ensures.ok

pub returns-clause-refused : goal.returns-clause-refused
returns-clause-refused g c =
    let r = c.args.repository.now in
    let request = c.args.request.now in
    let choice = c.in_ok-choice.choice in
    if_stopped (StopsWith (RefusesAbout r request choice)) (RefusesFetching r request) c.answer_choice.result
    (λ e is. (
      c.if-fetches_nothing.ensures,
      inr (choice, c.in_ok-choice.ensures.ok, inr (c.in_default.ensures, is)),
    )) c.answer_choice.ensures.refused
