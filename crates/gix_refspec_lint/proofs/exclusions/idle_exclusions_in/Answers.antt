use Rattle.std.proofs.Common.{length-append}
use Rattle.gix_refspec_lint.proofs.Common.{◌<◌, ◌≡◌, ℕ, Bool, List, [], ◌∷◌, None, Some, append-nil, map, sym, ap, refl}
use Rattle.gix_refspec_lint.proofs.Common.{take_all, arith, get_or, length, MatchBool-at_false, MatchBool-at_true}
use Rattle.gix_refspec_lint.proofs.Common.{reading_of, bstr_bytes, made_more, slice_get, some_element, subst}
use Rattle.gix_refspec_lint.proofs.lemmas.AlikeLemmas.{earlier_some, earlier_there, flags_tell, some_weaker}
use Rattle.gix_refspec_lint.proofs.lemmas.AlikeLemmas.{tells_behind}
use Rattle.gix_refspec_lint.proofs.lemmas.IndexLemmas.{reading_at}
use Rattle.gix_refspec_lint.proofs.lemmas.LeftOutLemmas.{IsIdleOne, idle_completed}
use Rattle.gix_refspec_lint.specs.Private.Alike.{IsEarlier, TellsIdle}
use Rattle.gix_refspec_lint.proofs.exclusions.idle_exclusions_in.Goals as goal
use Rattle.gix_refspec_lint.proofs.exclusions.idle_exclusions_in.Goals.{then-excludes_none+in_ok-push-2}
use Rattle.gix_refspec_lint.proofs.exclusions.idle_exclusions_in.Goals.{else-excludes_none}

pub flag_before-before-requires : goal.flag_before-before-requires
flag_before-before-requires c =
    let i = c.loop-index.index in
    some_weaker (IsEarlier (map reading_of c.args.group.now.specs.now) i)
    (λ (p : ℕ). p < length c.as_slice.result.now)
    (λ p e. let before = e.before in
    omega (arith, before, c.loop-index.invariant.0, ap length c.as_slice.ensures.value))
    c.index.result.now
    (earlier_there (map reading_of c.args.group.now.specs.now) c.in_ok-earlier.earlier.items i c.index.result.now
    (omega (arith, c.loop-index-test.true, c.in_ok-earlier.ensures.long)) c.index.ensures c.in_ok-earlier.ensures.alike)

pub loop-index-preserved : goal.loop-index-preserved
loop-index-preserved c =
    let merges = map bstr_bytes c.args.merges.now in
    let specs = c.args.group.now.specs.now in
    let i = c.loop-index.index in
    let x = some_element specs i c.loop-index-test.true in
    let flags = c.loop-index.flags.items in
    let old = c.loop-index.idle.items in
    let b = c.in_ok-excludes_none.excludes_none in (
      omega (
        arith,
        ap length c.in_ok-push.ensures.items,
        length-append {A = Bool} flags (b ∷ []),
        c.loop-index.invariant.0,
      ),
      λ g is.
          let (so_far, tell) = c.loop-index.invariant.1 g is in
          let there = earlier_there (map reading_of specs) c.in_ok-earlier.earlier.items i c.index.result.now
          (omega (arith, c.loop-index-test.true, c.in_ok-earlier.ensures.long)) c.index.ensures
          c.in_ok-earlier.ensures.alike in
          let told = c.in_ok-excludes_none.ensures g merges is
          (rw c.as_slice-in-loop-index.ensures.value c.in_ok-merged.ensures)
          (some_weaker
          (λ (d : Bool). (p : ℕ) × (c.index.result.now ≡ Some p) × (slice_get c.as_slice.result.now p ≡ Some d))
          (TellsIdle g merges (map reading_of specs) i) (λ d (p, at, flag).
          tells_behind g merges (map reading_of specs) i p d (earlier_some _ _ p at there)
          (tell p d (subst (λ (l : List Bool). slice_get l p ≡ Some d) c.as_slice.ensures.value flag)))
          c.flag_before-before.result c.flag_before-before.ensures) in
          let here = told (reading_of (get_or specs i x)) (reading_at specs i x c.loop-index-test.true) in (
            elim c.if-excludes_none.branch [
              | then-excludes_none+in_ok-push-2 w ↦ rw w.idle-is
                  (made_more (IsIdleOne g merges) reading_of specs i x old _ (Some i) c.loop-index-test.true so_far
                  (refl, MatchBool-at_true _ _ w.if-excludes_none.true here) w.in_ok-push-2.ensures.items)
              | else-excludes_none w ↦ rw w.idle-is (made_more
                  (IsIdleOne g merges) reading_of specs i x old old None c.loop-index-test.true so_far
                  (λ k both. MatchBool-at_false _ _ w.if-excludes_none.false here both.1) (sym (append-nil old)))
            ],
            flags_tell g merges (map reading_of specs) i flags _ b c.loop-index.invariant.0 c.in_ok-push.ensures.items
                told
                tell,
          ),
    )

pub returns : goal.returns
returns c g is =
    idle_completed g (map reading_of c.args.group.now.specs.now)
    (map bstr_bytes c.args.merges.now) c.loop-index.idle.items is.completed
    (rw (take_all c.loop-index.index c.args.group.now.specs.now (omega arith)) at (c.loop-index.invariant.1 g is).0)
