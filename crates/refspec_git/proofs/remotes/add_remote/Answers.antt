-- There are values.
use Rattle.std.proofs.Common.{inl}
use Rattle.refspec_git.proofs.remotes.add_remote.Goals as goal

pub returns-in_ok-push : goal.returns-in_ok-push
returns-in_ok-push c = inl (
  c.in_ok-remote_with.field-0,
  rw c.if-has_some.true at c.has_some.ensures,
  c.in_ok-remote_with.ensures,
  c.in_ok-push.ensures.items,
)
