-- Each argument is read, and then what they ask for.
use Rattle.std.proofs.Common.{Bor, List, map, subst, sym, take, ℕ}
use Rattle.std.proofs.lemmas.List.{map_more}
use Rattle.std.proofs.lemmas.Result.{IfOk-weaker, err_from_is_err_and}
use Rattle.refspec_request.specs.Reading.{HasRead, call_of}
use Rattle.refspec_request.proofs.ArgumentLemmas.{first_refused, if_err, whole_asks, whole_refused}
use Rattle.refspec_request.proofs.arguments.purpose_of.Goals as goal

abbrev now : Bor (List ℕ) → List ℕ
now it = it.now

pub loop-argument-init : goal.loop-argument-init
loop-argument-init c = c.new-reading.ensures

pub loop-argument-preserved : goal.loop-argument-preserved
loop-argument-preserved c =
    let all = c.args.arguments.now in
    let i = c.loop-argument.argument-index in
    subst (λ l. HasRead l c.take.new.self) (sym (map_more now all i _ c.loop-argument-test.true))
    (c.in_ok-take.ensures.ok (map now (take i all)) c.loop-argument.invariant)

pub returns-in_err-take-clause-refused : goal.returns-in_err-take-clause-refused
returns-in_err-take-clause-refused c =
    let all = c.args.arguments.now in
    let i = c.loop-argument.argument-index in
    let q = err_from_is_err_and c.from_residual.result c.from_residual.ensures.1 in
    rw (q.1, q.2) (first_refused all i _ _ c.loop-argument-test.true
    (c.in_err-take.ensures.refused (map now (take i all)) c.loop-argument.invariant))

pub returns : goal.returns
returns c =
    let all = c.args.arguments.now in
    let i = c.loop-argument.argument-index in
    let past = c.loop-argument-test.false in
    let call = c.loop-argument.invariant in
    record {
      ok = IfOk-weaker c.finish.result _ _
          (λ p asks. whole_asks all i (call_of c.loop-argument.reading) p past call asks) c.finish.ensures.ok;
      refused = if_err c.finish.result _ _ c.finish.ensures.refused
          (λ e told. whole_refused all i (call_of c.loop-argument.reading) e past call told);
    }
