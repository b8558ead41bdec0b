-- The first remote that the path begins with.
use Rattle.std.proofs.Common.{subst, sym, take_all}
use Rattle.std.proofs.lemmas.List.Elements.{All-more}
use Rattle.std.specs.List.{All}
use Rattle.refspec_commands.specs.declared.tracking.question.Remote.{Remote}
use Rattle.refspec_git.specs.Named.{IsAbove}
use Rattle.refspec_git.proofs.named.has_above.Goals as goal

pub returns-then-is_above : goal.returns-then-is_above
returns-then-is_above c = (
  c.loop-remote.remote-index,
  c.remote-item.result,
  c.loop-remote-test.true,
  sym c.remote-item.is,
  rw c.if-is_above.true at c.is_above.ensures,
)

pub loop-remote-preserved : goal.loop-remote-preserved
loop-remote-preserved c =
    All-more (λ (r : Remote). ¬ (IsAbove c.args.path.now r)) c.args.remotes.now c.loop-remote.remote-index
    c.remote-item.result c.loop-remote-test.true c.loop-remote.invariant
    (subst (λ (r : Remote). ¬ (IsAbove c.args.path.now r)) c.remote-item.is
    (rw c.if-is_above.false at c.is_above.ensures))

pub returns : goal.returns
returns c =
    subst (All (λ (r : Remote). ¬ (IsAbove c.args.path.now r)))
    (take_all c.loop-remote.remote-index c.args.remotes.now c.loop-remote-test.false) c.loop-remote.invariant
