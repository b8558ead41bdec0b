-- Two specs of which one is behind another one with the same sides conflict only if that one does.
use Rattle.std.proofs.Common.{length-append}
use Rattle.gix_refspec_lint.proofs.Common.{Bool, [], ◌∷◌, ◌<◌, length, map, None, Some, append-nil, sym, ap, ◌∙◌}
use Rattle.gix_refspec_lint.proofs.Common.{take_all, arith, map-append, ℕ, example_of}
use Rattle.gix_refspec_lint.proofs.lemmas.AlikeLemmas.{falses_more, none_found}
use Rattle.gix_refspec_lint.proofs.lemmas.FoundLemmas.{group_long, row_next}
use Rattle.gix_refspec_lint.specs.Private.Alike.{CanShow}
use Rattle.gix_refspec_lint.proofs.conflicts.conflicts_with.Goals as goal
use Rattle.gix_refspec_lint.proofs.conflicts.conflicts_with.Goals.{in-Some+in_ok-push-2, in_default}

pub loop-second-preserved : goal.loop-second-preserved
loop-second-preserved c =
    let i = c.args.first in
    let j = c.loop-second.second in
    let old = c.loop-second.flags.items in
    let b = c.is_some.result in (
      omega (
        arith,
        ap length c.in_ok-push.ensures.items,
        length-append {A = Bool} old (b ∷ []),
        c.loop-second.invariant.0,
      ),
      λ g is have.
          let below : j < length g = rw (group_long g c.args.group.now is) c.loop-second-test.true in
          let (so_far, none) = c.loop-second.invariant.1 g is have in
          let told = c.in_ok-conflict.ensures g is have (rw c.as_slice.ensures.value none) in (
            elim c.match-conflict-6.branch [
              | in-Some+in_ok-push-2 w ↦
                  rw w.found-is (row_next g i j (Some (example_of w.in-Some.conflict)) _ _ below
                  (rw w.in-Some.is at told) so_far (ap (map example_of) w.in_ok-push-2.ensures.items
                  ∙ map-append example_of _ _))
              | in_default w ↦ rw w.found-is (row_next g i j None _ _ below (rw w.in_default.is at told) so_far
                  (sym (append-nil _)))
            ],
            falses_more (λ (q : ℕ). i < q → ¬ (CanShow g i q)) j old c.push.new.self.items b c.loop-second.invariant.0
                c.in_ok-push.ensures.items
                (λ is_none behind. none_found g i j c.in_ok-conflict.conflict told (sym c.is_some.ensures ∙ is_none))
                none,
          ),
    )

pub returns : goal.returns
returns c g is have =
    rw (take_all c.loop-second.second g (omega (arith, group_long g c.args.group.now is, c.loop-second-test.false))) at
    (c.loop-second.invariant.1 g is have).0
