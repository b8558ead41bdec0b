-- The branches that are named, or all.
use Rattle.std.proofs.Common.{◌∙◌, Bor, List, inl, inr, refl, subst, sym, ℕ}
use Rattle.std.proofs.lemmas.Result.{err_from_is_err_and}
use Rattle.std.specs.List.{AllZip}
use Rattle.refspec_git.specs.Branches.{AreAllBranches, IsNamedBranch}
use Rattle.refspec_git.proofs.BranchLemmas.{named_refused}
use Rattle.refspec_git.proofs.branches.chosen_in.Goals as goal

pub returns-then-names_some-clause-ok : goal.returns-then-names_some-clause-ok
returns-then-names_some-clause-ok c = λ are. inl (
  λ none. (rw c.if-names_some.true at c.names_some.ensures) (c.as_slice-arguments.ensures.value ∙ none),
  subst (λ (l : List (Bor (List ℕ))). AllZip (IsNamedBranch c.args.repository.now) l c.in_ok-named.named.items)
      c.as_slice-arguments.ensures.value (c.in_ok-named.ensures.ok are),
)

pub returns-in_err-named-clause-refused : goal.returns-in_err-named-clause-refused
returns-in_err-named-clause-refused c =
    let q = err_from_is_err_and c.from_residual.result c.from_residual.ensures.1 in
    rw (q.1, q.2) (λ are. named_refused c.args.repository.now c.args.request.now c.as_slice-arguments.result.now _
    c.as_slice-arguments.ensures.value c.in_err-named.ensures.refused)

pub returns-then-has_none-clause-refused : goal.returns-then-has_none-clause-refused
returns-then-has_none-clause-refused c = λ are. inr (inr (
  refl,
  sym c.as_slice-arguments.ensures.value ∙ (rw c.if-names_some.false at c.names_some.ensures),
  subst (AreAllBranches c.args.repository.now.settings.now)
      (sym c.as_slice.ensures.value ∙ (rw c.if-has_none.true at c.has_none.ensures))
      (c.in_ok-branches.ensures c.args.repository.now.settings.now are),
))

pub returns-clause-ok : goal.returns-clause-ok
returns-clause-ok c = λ are. inr (
  sym c.as_slice-arguments.ensures.value ∙ (rw c.if-names_some.false at c.names_some.ensures),
  c.in_ok-branches.ensures c.args.repository.now.settings.now are,
  λ none. (rw c.if-has_none.false at c.has_none.ensures) (c.as_slice.ensures.value ∙ none),
)
