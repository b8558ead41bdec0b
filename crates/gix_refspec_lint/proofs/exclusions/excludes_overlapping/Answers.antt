use Rattle.gix_refspec_lint.proofs.Common.{ℕ, List, MatchBool-at_false, reading_of, name, ExcludesFrom, AreOverlaps}
use Rattle.gix_refspec_lint.proofs.Common.{IsUnsound}
use Rattle.gix_refspec_lint.proofs.exclusions.excludes_overlapping.Goals.{in-Some}
use Rattle.gix_refspec_lint.proofs.exclusions.excludes_overlapping.Goals.{in-None+in_ok-name-in-None+in_ok-why-in-None+in_ok-excludes_at-in-None+else-branch}
use Rattle.gix_refspec_lint.proofs.lemmas.FailLemmas.{unsound_again}
use Rattle.gix_refspec_lint.proofs.lemmas.{FailLemmas.unsound_none, RunLemmas.{none_so_far, one_more, passed_over}}
use Rattle.gix_refspec_lint.proofs.exclusions.excludes_overlapping.Goals as goal

pub loop-shared-init : goal.loop-shared-init
loop-shared-init c =
    none_so_far (λ n. ¬ (ExcludesFrom (reading_of c.args.negative.now) (reading_of c.args.spec.now) (name n)))
    (IsUnsound (reading_of c.args.spec.now)) c.args.common.now.prefix.now c.args.common.now.suffix.now c.none-run.result
    tt c.none-run.ensures

pub loop-shared-preserved : goal.loop-shared-preserved
loop-shared-preserved c =
    let negative = reading_of c.args.negative.now in
    let spec = reading_of c.args.spec.now in
    let P : List ℕ → Type 0 = λ n. ¬ (ExcludesFrom negative spec (name n)) in
    let list = c.deref-shared-items.result.now in
    let are : AreOverlaps c.args.common.now.prefix.now c.args.common.now.suffix.now c.args.common.now.most list =
    rw c.deref-shared-items.ensures.value c.in_ok-overlaps.ensures in
    elim c.match-at.branch [
      | in-Some w ↦ passed_over P (IsUnsound spec) _ _ _ list are c.loop-shared.shared-index c.loop-shared.run
          c.loop-shared.invariant c.loop-shared-test.true (unsound_again spec)
          (λ why n known reason. unsound_none negative spec c.args.spec.now.accepted why n known reason) c.match-at.why
          c.with-run.result (rw w.why-is (rw w.in-Some.is at c.at.ensures)) c.with-run.ensures
      | in-None+in_ok-name-in-None+in_ok-why-in-None+in_ok-excludes_at-in-None+else-branch w ↦
          one_more P (IsUnsound spec) _ _ _ list are c.loop-shared.shared-index c.loop-shared.run
          c.loop-shared.invariant c.loop-shared-test.true c.match-at.why c.with-run.result
          (rw (w.source_named.ensures, w.in_ok-name-in-None.ensures) at
          (MatchBool-at_false _ _ w.if-branch.false w.in_ok-excludes_at-in-None.ensures))
          (rw w.why-is (rw w.in_ok-name-in-None.ensures at w.in_ok-why-in-None.ensures)) c.with-run.ensures
    ]
