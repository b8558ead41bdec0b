-- A branch with merge values is added.
use Rattle.std.proofs.Common.{inl, inr, refl}
use Rattle.refspec_git.proofs.branches.Values.add.Goals as goal

pub returns-in_ok-push : goal.returns-in_ok-push
returns-in_ok-push c = λ settings are. inl (
  c.branch_of.result,
  rw c.if-has_some.true at c.has_some.ensures,
  c.branch_of.ensures settings are,
  c.in_ok-push.ensures.items,
)

pub returns-else-has_some : goal.returns-else-has_some
returns-else-has_some c = λ settings are. inr (rw c.if-has_some.false at c.has_some.ensures, refl)
