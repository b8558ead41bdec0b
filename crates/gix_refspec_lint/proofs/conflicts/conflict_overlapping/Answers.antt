use Rattle.gix_refspec_lint.proofs.Common.{take_all, arith, NoneAt, AreOverlaps}
use Rattle.gix_refspec_lint.proofs.lemmas.FailLemmas.{fails_again, fails_none}
use Rattle.gix_refspec_lint.proofs.lemmas.RunLemmas.{each_overlap, none_so_far, one_more, passed_over}
use Rattle.gix_refspec_lint.proofs.conflicts.conflict_overlapping.Goals as goal
use Rattle.gix_refspec_lint.proofs.conflicts.conflict_overlapping.Goals.{in-Some}
use Rattle.gix_refspec_lint.proofs.conflicts.conflict_overlapping.Goals.{in-None+in_ok-name-in-None+in_ok-conflict-in-None+in-Nothing}

pub loop-shared-init : goal.loop-shared-init
loop-shared-init c g is have = none_so_far _ _ _ _ _ tt c.none-run.ensures

pub returns-in-Conflict : goal.returns-in-Conflict
returns-in-Conflict c g is have =
    rw c.in-Conflict.is at (c.in_ok-conflict-in-None.ensures g is have.one.reading have.other.reading have.one.at
    have.other.at)

pub loop-shared-preserved : goal.loop-shared-preserved
loop-shared-preserved c g is have =
    let list = c.deref-shared-items.result.now in
    let are : AreOverlaps c.args.common.now.prefix.now c.args.common.now.suffix.now c.args.common.now.most list =
    rw c.deref-shared-items.ensures.value c.in_ok-overlaps.ensures in
    let so_far = c.loop-shared.invariant g is have in
    elim c.match-at.branch [
      | in-Some w ↦ passed_over _ _ _ _ _ _ are _ _ so_far c.loop-shared-test.true (fails_again g _ _)
          (λ why n known reason. fails_none g _ is _ _ _ _ have.one.at have.other.at n why known reason)
          _ _ (rw w.why-is (rw w.in-Some.is at c.at.ensures)) c.with-run.ensures
      | in-None+in_ok-name-in-None+in_ok-conflict-in-None+in-Nothing w ↦
          let told = rw (w.as_bstr.ensures, w.in_ok-name-in-None.ensures) at
          (rw w.in-Nothing.is at (w.in_ok-conflict-in-None.ensures g is _ _ have.one.at have.other.at)) in
          one_more _ _ _ _ _ _ are _ _ so_far c.loop-shared-test.true _ _ told.0 (rw w.why-is told.1) c.with-run.ensures
    ]

pub returns : goal.returns
returns c g is have =
    let list = c.deref-shared-items.result.now in
    each_overlap (NoneAt g c.args.first c.args.second) _ _ _ list
    (rw c.deref-shared-items.ensures.value c.in_ok-overlaps.ensures)
    (rw (take_all c.loop-shared.shared-index list (omega arith)) at (c.loop-shared.invariant g is have).all)
