-- No remote is named, the branches are chosen, and none has a remote with a file of its own.
use Rattle.std.proofs.Common.{List, inl, inr, refl, subst}
use Rattle.std.proofs.lemmas.Result.{err_from_is_err_and}
use Rattle.std.specs.List.{All}
use Rattle.refspec_git.specs.declared.branches.Branch.{Branch}
use Rattle.refspec_git.specs.Branches.{HasNoOldRemote, HasOldRemote}
use Rattle.refspec_git.specs.Named.{HasFirst}
use Rattle.refspec_git.proofs.branches.branches_of.Goals as goal

pub returns-then-names_remote-clause-refused : goal.returns-then-names_remote-clause-refused
returns-then-names_remote-clause-refused c = inl (refl, rw c.if-names_remote.true at c.names_remote.ensures)

pub returns-in_err-values-clause-refused : goal.returns-in_err-values-clause-refused
returns-in_err-values-clause-refused c =
    let q = err_from_is_err_and c.from_residual.result c.from_residual.ensures.1 in rw q.1 (inr (inl (inl q.2)))

pub returns-in_err-branches-clause-refused : goal.returns-in_err-branches-clause-refused
returns-in_err-branches-clause-refused c =
    let q = err_from_is_err_and c.from_residual-in_err-branches.result c.from_residual-in_err-branches.ensures.1 in
    rw (q.1, q.2) (inr (inl (c.in_err-branches.ensures.refused c.in_ok-values.ensures)))

pub returns-in_err-refuse_old-clause-refused : goal.returns-in_err-refuse_old-clause-refused
returns-in_err-refuse_old-clause-refused c =
    let q = err_from_is_err_and c.from_residual-in_err-refuse_old.result c.from_residual-in_err-refuse_old.ensures.1 in
    let r = c.args.repository.now in
    rw (q.1, q.2) (inr (inr (
      c.in_ok-branches.branches.items,
      c.in_ok-branches.ensures.ok c.in_ok-values.ensures,
      subst (λ (l : List Branch). HasFirst (HasNoOldRemote r) (HasOldRemote r c.in_err-refuse_old.field-0.0) l)
          c.as_slice.ensures.value
          c.in_err-refuse_old.ensures,
    )))

pub returns-clause-ok : goal.returns-clause-ok
returns-clause-ok c = record {
  free = rw c.if-names_remote.false at c.names_remote.ensures;
  chosen = c.in_ok-branches.ensures.ok c.in_ok-values.ensures;
  new = subst (All (HasNoOldRemote c.args.repository.now)) c.as_slice.ensures.value c.in_ok-refuse_old.ensures;
}
