-- The first update that fetches it so.
use Rattle.std.proofs.Common.{subst, sym, take_all}
use Rattle.std.proofs.lemmas.List.Elements.{All-more}
use Rattle.std.specs.List.{All}
use Rattle.gix_refspec_plan.specs.declared.Update.{Update}
use Rattle.refspec_git.specs.Fates.{IsAlone}
use Rattle.refspec_git.proofs.fates.takes_alone.Goals as goal

pub returns-then-is_alone : goal.returns-then-is_alone
returns-then-is_alone c = (
  c.loop-update.update-index,
  c.update-item.result,
  c.loop-update-test.true,
  sym c.update-item.is,
  rw c.if-is_alone.true at c.is_alone.ensures,
)

pub loop-update-preserved : goal.loop-update-preserved
loop-update-preserved c =
    All-more (λ (u : Update). ¬ (IsAlone c.args.name.now u)) c.args.updates.now c.loop-update.update-index
    c.update-item.result c.loop-update-test.true c.loop-update.invariant
    (subst (λ (u : Update). ¬ (IsAlone c.args.name.now u)) c.update-item.is
    (rw c.if-is_alone.false at c.is_alone.ensures))

pub returns : goal.returns
returns c =
    subst (All (λ (u : Update). ¬ (IsAlone c.args.name.now u)))
    (take_all c.loop-update.update-index c.args.updates.now c.loop-update-test.false) c.loop-update.invariant
