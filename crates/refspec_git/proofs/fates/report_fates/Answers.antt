-- The arguments say what the call is about, and a remote is chosen.
use Rattle.std.proofs.Common.{Bor, List, inl, inr, subst, ℕ}
use Rattle.std.proofs.lemmas.Result.{err_from_is_err_and}
use Rattle.refspec_request.specs.declared.choice.Choice.{Choice}
use Rattle.refspec_git.specs.Fates.{AnswersAbout, AnswersFates, IsAsked, RefusesAsked}
use Rattle.refspec_git.proofs.CallLemmas.{if_ok}
use Rattle.refspec_git.proofs.FateLemmas.{refusal_of}
use Rattle.refspec_git.proofs.fates.report_fates.Goals as goal

pub returns-in_err-asked-clause-refused : goal.returns-in_err-asked-clause-refused
returns-in_err-asked-clause-refused g c =
    let q = err_from_is_err_and c.from_residual.result c.from_residual.ensures.1 in
    rw (q.1, q.2) (inl (subst
    (λ (l : List (Bor (List ℕ))). RefusesAsked c.args.request.now.remote l c.in_err-asked.field-0.0)
    c.as_slice.ensures.value c.in_err-asked.ensures))

pub returns-in_err-remote-clause-refused : goal.returns-in_err-remote-clause-refused
returns-in_err-remote-clause-refused g c =
    let q = err_from_is_err_and c.from_residual-in_err-remote.result c.from_residual-in_err-remote.ensures.1 in
    let asked = c.in_ok-asked.asked in
    rw (q.1, q.2) (inr (
      asked,
      subst (λ (l : List (Bor (List ℕ))). IsAsked c.args.request.now.remote l asked) c.as_slice.ensures.value
          c.in_ok-asked.ensures,
      inl c.in_err-remote.ensures.refused,
    ))

pub returns-in-Some-clause-refused : goal.returns-in-Some-clause-refused
returns-in-Some-clause-refused g c =
    let asked = c.in_ok-asked.asked in
    inr (
      asked,
      subst (λ (l : List (Bor (List ℕ))). IsAsked c.args.request.now.remote l asked) c.as_slice.ensures.value
          c.in_ok-asked.ensures,
      inr (c.in_ok-remote.remote, c.in_ok-remote.ensures.ok, c.in-Some.ensures),
    )

pub returns-clause-ok : goal.returns-clause-ok
returns-clause-ok g c =
    let r = c.args.repository.now in
    let request = c.args.request.now in
    let asked = c.in_ok-asked.asked in
    let choice : Choice = record { remote = c.in_ok-remote.remote; specs = c.new-specs.result } in
    if_ok (AnswersAbout r request.form asked.name.now choice) (AnswersFates r request) c.answer_about.result
    (λ a is. record {
      asked = asked;
      choice = choice;
      is_asked = subst (λ (l : List (Bor (List ℕ))). IsAsked request.remote l asked) c.as_slice.ensures.value
          c.in_ok-asked.ensures;
      chosen = c.in_ok-remote.ensures.ok;
      new = c.in_default.ensures;
      none = c.new-specs.ensures.items;
      answers = is;
    })
    c.answer_about.ensures.ok

pub returns-clause-refused : goal.returns-clause-refused
returns-clause-refused g c =
    refusal_of c.args.repository.now c.args.request.now
    (record { remote = c.in_ok-remote.remote; specs = c.new-specs.result }) c.answer_about.result
    c.new-specs.ensures.items
    c.answer_about.ensures.refused
