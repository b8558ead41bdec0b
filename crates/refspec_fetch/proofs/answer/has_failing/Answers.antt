-- An update that fails is among those that do, and else there are none.
use Rattle.std.proofs.Common.{◌∙◌, ◌++◌, ◌∷◌, [], false, ap, sym}
use Rattle.gix_refspec_plan.specs.Views.Plan.{planned_of}
use Rattle.refspec_fetch.specs.Verdicts.{failing_of}
use Rattle.refspec_fetch.proofs.VerdictLemmas.{failing-next, failing-one, failing-some}
use Rattle.refspec_fetch.proofs.answer.has_failing.Goals as goal

pub loop-update-preserved : goal.loop-update-preserved
loop-update-preserved c =
    let x = c.update-item.result in
    failing-next c.args.updates.now c.loop-update.update-index x c.loop-update-test.true c.update-item.is
    ∙ (ap (λ l. l ++ failing_of (planned_of x ∷ [])) c.loop-update.invariant
    ∙ failing-one (planned_of x) false (sym c.fails.ensures ∙ c.if-fails.false))

pub returns-then-fails : goal.returns-then-fails
returns-then-fails c = failing-some c.args.updates.now c.loop-update.update-index c.update-item.result
    c.loop-update-test.true c.update-item.is (sym c.fails.ensures ∙ c.if-fails.true)
