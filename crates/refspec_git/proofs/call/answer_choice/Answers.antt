-- The remote may be fetched, or is refused.
use Rattle.std.proofs.Common.{inl, inr, map, refl}
use Rattle.std.proofs.lemmas.Bool.{iff_false}
use Rattle.refspec_git.specs.Asked.{AnswersPrefixes}
use Rattle.refspec_git.specs.Call.{AnswersChoice, RefusesAbout}
use Rattle.refspec_git.specs.Wanted.{RefusesGiven}
use Rattle.refspec_git.proofs.CallLemmas.{if_ok, if_stopped}
use Rattle.refspec_git.proofs.call.answer_choice.Goals as goal

pub returns-then-not-may_fetch-clause-refused : goal.returns-then-not-may_fetch-clause-refused
returns-then-not-may_fetch-clause-refused g c =
    inl (c.if-not-is_prefixes.ensures, inl (iff_false c.if-not-may_fetch.ensures refl, refl))

pub returns-clause-ok : goal.returns-clause-ok
returns-clause-ok g c =
    let r = c.args.repository.now in
    let request = c.args.request.now in
    let choice = c.args.choice.now in
    if_ok (AnswersPrefixes r request choice) (AnswersChoice r request choice) c.report_prefixes.result
    (λ a is. inl (c.if-not-is_prefixes.ensures, c.if-not-may_fetch.ensures.0 refl, is)) c.report_prefixes.ensures.ok

pub returns-clause-refused : goal.returns-clause-refused
returns-clause-refused g c =
    let choice = c.args.choice.now in
    if_stopped (RefusesGiven (map (λ text. text.now) choice.specs.items))
    (RefusesAbout c.args.repository.now c.args.request.now choice) c.report_prefixes.result
    (λ e is. inl (c.if-not-is_prefixes.ensures, inr (c.if-not-may_fetch.ensures.0 refl, is)))
    c.report_prefixes.ensures.refused
