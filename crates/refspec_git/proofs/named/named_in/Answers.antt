-- Each argument names a ref, or is the first that doesn't.
use Rattle.std.proofs.Common.{List, Bor, ℕ, subst, take_all, sym}
use Rattle.std.proofs.lemmas.List.Elements.{All-more}
use Rattle.std.proofs.lemmas.Result.{err_from_is_err_and}
use Rattle.std.specs.List.{AllZip}
use Rattle.refspec_git.specs.Named.{IsBad, IsNamed}
use Rattle.refspec_git.proofs.NamedLemmas.{named_refused, not_bad, zip_taken}
use Rattle.refspec_git.proofs.named.named_in.Goals as goal

pub loop-number-preserved : goal.loop-number-preserved
loop-number-preserved c = λ (w : goal.In_ok-push c).
    let is = w.in_ok-named_by.ensures.ok in (
      subst (AllZip IsNamed _) (sym w.in_ok-push.ensures.items)
          (zip_taken IsNamed w.args.arguments.now w.loop-number.number _ w.loop-number.named.items
          w.in_ok-named_by.field-0 w.loop-number-test.true w.loop-number.invariant.0 is),
      All-more (λ (a : Bor (List ℕ)). ¬ (IsBad a)) w.args.arguments.now w.loop-number.number _ w.loop-number-test.true
          w.loop-number.invariant.1 (not_bad _ w.in_ok-named_by.field-0.meaning is.meant is.good),
    )

pub returns : goal.returns
returns c = λ (w : goal.After-loop-number c). record {
  ok = subst (λ (l : List (Bor (List ℕ))). AllZip IsNamed l w.loop-number.named.items)
      (take_all w.loop-number.number w.args.arguments.now w.loop-number-test.false) w.loop-number.invariant.0;
  refused = tt;
}

pub returns-in_err-named_by-clause-refused : goal.returns-in_err-named_by-clause-refused
returns-in_err-named_by-clause-refused c = λ (w : goal.After-drop-named c).
    let q = err_from_is_err_and w.from_residual-in_err-named_by.result w.from_residual-in_err-named_by.ensures.1 in
    rw (q.1, q.2) (named_refused w.args.arguments.now w.loop-number.number _ _ w.loop-number-test.true
    w.loop-number.invariant.1 w.in_err-named_by.ensures.refused)
