-- Each argument is a remote or a spec.
use Rattle.std.proofs.Common.{◌∙◌, Bor, List, map, subst, sym, take, take_all, ℕ}
use Rattle.std.proofs.lemmas.List.{map_more}
use Rattle.std.proofs.lemmas.Result.{err_from_is_err_and}
use Rattle.refspec_git.specs.Chosen.{HasNamed}
use Rattle.refspec_git.proofs.ChosenLemmas.{count_taken, one_refused}
use Rattle.refspec_git.proofs.chosen.named_in.Goals as goal

abbrev now : Bor (List ℕ) → List ℕ
now it = it.now

pub loop-number-init : goal.loop-number-init
loop-number-init c = c.in_ok-named.ensures.ok

pub loop-number-preserved : goal.loop-number-preserved
loop-number-preserved c =
    let all = c.as_slice-arguments.result.now in
    let i = c.loop-number.number in
    subst (λ l. HasNamed c.args.request.now c.args.repository.now l c.add.new.self)
    (sym (map_more now all i _ c.loop-number-test.true))
    (c.in_ok-add.ensures.ok (map now (take i all)) (count_taken all i c.loop-number-test.true) c.loop-number.invariant)

pub returns-in_err-add-clause-refused : goal.returns-in_err-add-clause-refused
returns-in_err-add-clause-refused c =
    let q = err_from_is_err_and c.from_residual-in_err-add.result c.from_residual-in_err-add.ensures.1 in
    rw (q.1, q.2) (one_refused c.args.request.now c.args.repository.now c.as_slice-arguments.result.now
    c.loop-number.number _ _ _ _ c.as_slice-arguments.ensures.value c.loop-number-test.true c.loop-number.invariant
    c.in_err-add.ensures.refused)

pub returns-clause-ok : goal.returns-clause-ok
returns-clause-ok c =
    let r = c.args.repository.now in
    subst (λ (l : List (Bor (List ℕ))). HasNamed c.args.request.now r (map now l) c.loop-number.named)
    (take_all c.loop-number.number c.as_slice-arguments.result.now c.loop-number-test.false
    ∙ c.as_slice-arguments.ensures.value) c.loop-number.invariant
