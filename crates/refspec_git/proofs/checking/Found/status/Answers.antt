-- Each refusal may raise the status.
use Rattle.refspec_git.proofs.CheckingLemmas.{status_next}
use Rattle.refspec_git.proofs.checking.Found.status.Goals as goal

pub loop-refusal-preserved : goal.loop-refusal-preserved
loop-refusal-preserved c =
    let so_far = c.loop-refusal.invariant in (
      so_far.0,
      so_far.1,
      status_next so_far.0 c.deref-refusal-items.result.now c.loop-refusal.refusal-index c.loop-refusal.status
          c.status.result c.max-status.result _ c.loop-refusal-test.true so_far.2 c.status.ensures
          c.max-status.ensures,
    )
