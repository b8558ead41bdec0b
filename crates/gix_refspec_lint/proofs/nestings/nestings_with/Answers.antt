-- Two specs of which one is behind another one with the same sides are in such a conflict only if that one is.
use Rattle.std.proofs.Common.{length-append}
use Rattle.gix_refspec_lint.proofs.Common.{Bool, [], ◌∷◌, ◌<◌, length, map, None, Some, append-nil, sym, ap, ◌∙◌}
use Rattle.gix_refspec_lint.proofs.Common.{take_all, arith, map-append, ℕ}
use Rattle.gix_refspec_lint.proofs.lemmas.AlikeLemmas.{falses_more, nesting_more, none_nested}
use Rattle.gix_refspec_lint.proofs.lemmas.FoundLemmas.{group_long}
use Rattle.gix_refspec_lint.specs.Private.Alike.{CanShowNesting}
use Rattle.gix_refspec_lint.specs.Views.Lint.{nesting_of}
use Rattle.gix_refspec_lint.proofs.nestings.nestings_with.Goals as goal
use Rattle.gix_refspec_lint.proofs.nestings.nestings_with.Goals.{in-Some+in_ok-push-2, in_default}

pub loop-second-preserved : goal.loop-second-preserved
loop-second-preserved c =
    let i = c.args.first in
    let j = c.loop-second.second in
    let old = c.loop-second.flags.items in
    let b = c.is_some.result in (
      omega (
        arith,
        ap length c.in_ok-push.ensures.items,
        length-append {A = Bool} old (b ∷ []),
        c.loop-second.invariant.0,
      ),
      λ g is have tell.
          let below : j < length g = rw (group_long g c.args.group.now is) c.loop-second-test.true in
          let (so_far, none) = c.loop-second.invariant.1 g is have tell in
          let told = c.in_ok-nesting.ensures g is have tell (rw c.as_slice.ensures.value none) in (
            elim c.match-nesting-6.branch [
              | in-Some+in_ok-push-2 w ↦
                  rw w.found-is (nesting_more g i j (Some (nesting_of w.in-Some.nesting)) _ _ below
                  (rw w.in-Some.is at told) so_far (ap (map nesting_of) w.in_ok-push-2.ensures.items
                  ∙ map-append nesting_of _ _))
              | in_default w ↦ rw w.found-is (nesting_more g i j None _ _ below (rw w.in_default.is at told) so_far
                  (sym (append-nil _)))
            ],
            falses_more (λ (q : ℕ). i < q → ¬ (CanShowNesting g i q)) j old c.push.new.self.items b
                c.loop-second.invariant.0 c.in_ok-push.ensures.items
                (λ is_none behind. none_nested g i j c.in_ok-nesting.nesting told (sym c.is_some.ensures ∙ is_none))
                none,
          ),
    )

pub returns : goal.returns
returns c g is have tell =
    rw (take_all c.loop-second.second g (omega (arith, group_long g c.args.group.now is, c.loop-second-test.false))) at
    (c.loop-second.invariant.1 g is have tell).0
