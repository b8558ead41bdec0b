-- Each argument names one branch more, or is the first that names none.
use Rattle.std.proofs.Common.{List, Bor, ℕ, inr, subst, sym, take_all}
use Rattle.std.proofs.lemmas.List.Elements.{All-more}
use Rattle.std.proofs.lemmas.Result.{err_from_is_err_and}
use Rattle.std.specs.List.{AllZip}
use Rattle.refspec_git.specs.Branches.{IsNamedBranch, NamesBranch, RefusesBranch}
use Rattle.refspec_git.proofs.NamedLemmas.{HasFirst-at, zip_taken}
use Rattle.refspec_git.proofs.branches.named_in.Goals as goal

pub loop-argument-preserved : goal.loop-argument-preserved
loop-argument-preserved c =
    let r = c.args.repository.now in
    let names = c.in_ok-name.ensures in (
      λ are. subst (AllZip (IsNamedBranch r) _) (sym c.in_ok-push.ensures.items)
          (zip_taken (IsNamedBranch r) c.args.arguments.now c.loop-argument.argument-index _
          c.loop-argument.branches.items
          c.branch_of.result c.loop-argument-test.true (c.loop-argument.invariant.0 are)
          (_, names, c.branch_of.ensures r.settings.now are)),
      All-more (λ (a : Bor (List ℕ)). (name : List ℕ) × NamesBranch r a.now name) c.args.arguments.now
          c.loop-argument.argument-index _ c.loop-argument-test.true c.loop-argument.invariant.1 (_, names),
    )

pub returns : goal.returns
returns c = record {
  ok = λ are. subst (λ (l : List (Bor (List ℕ))). AllZip (IsNamedBranch c.args.repository.now) l
      c.loop-argument.branches.items)
      (take_all c.loop-argument.argument-index c.args.arguments.now c.loop-argument-test.false)
      (c.loop-argument.invariant.0 are);
  refused = tt;
}

pub returns-in_err-name-clause-refused : goal.returns-in_err-name-clause-refused
returns-in_err-name-clause-refused c =
    let r = c.args.repository.now in
    let q = err_from_is_err_and c.from_residual-in_err-name.result c.from_residual-in_err-name.ensures.1 in
    rw (q.1, q.2) (inr (HasFirst-at (λ (a : Bor (List ℕ)). (name : List ℕ) × NamesBranch r a.now name)
    (λ (a : Bor (List ℕ)). RefusesBranch r a c.in_err-name.field-0.0) c.args.arguments.now
    c.loop-argument.argument-index _ c.loop-argument-test.true c.loop-argument.invariant.1 c.in_err-name.ensures))
