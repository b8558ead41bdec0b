use Rattle.std.proofs.Common.{length-append}
use Rattle.gix_refspec_lint.proofs.Common.{◌<◌, ◌≡◌, ℕ, Bool, List, Some, None, [], ◌∷◌, ap, arith, false}
use Rattle.gix_refspec_lint.proofs.Common.{get_or, length, map, reading_of, slice_get, subst}
use Rattle.gix_refspec_lint.proofs.lemmas.AlikeLemmas.{alike_in, dead_alike, earlier_some, falses_more, some_weaker}
use Rattle.gix_refspec_lint.specs.Private.Alike.{IsDead, IsEarlier}
use Rattle.gix_refspec_lint.proofs.nestings.works_in.Goals as goal

pub flag_before-before-requires : goal.flag_before-before-requires
flag_before-before-requires c =
    let i = c.loop-index.index in
    some_weaker (IsEarlier (map reading_of c.args.group.now.specs.now) i)
    (λ (p : ℕ). p < length c.as_slice.result.now)
    (λ p e. let before = e.before in
    omega (arith, before, c.loop-index.invariant.0, ap length c.as_slice.ensures.value))
    (get_or c.args.earlier.now i None) (c.requires.earlier i)

pub loop-index-preserved : goal.loop-index-preserved
loop-index-preserved c =
    let i = c.loop-index.index in
    let old = c.loop-index.works.items in
    let b = c.in_ok-does.does in (
      omega (
        arith,
        ap length c.in_ok-push.ensures.items,
        length-append {A = Bool} old (b ∷ []),
        c.loop-index.invariant.0,
      ),
      λ g is.
          let so_far = c.loop-index.invariant.1 g is in
          falses_more (IsDead g) i old c.push.new.self.items b c.loop-index.invariant.0 c.in_ok-push.ensures.items
          (c.in_ok-does.ensures g is (λ known.
          let (p, at, flag) = earlier_some _ _ false known c.flag_before-before.ensures in
          dead_alike g p i
          (alike_in g c.args.group.now is i p c.loop-index-test.true (earlier_some _ _ p at (c.requires.earlier i)))
          (so_far p (subst (λ (l : List Bool). slice_get l p ≡ Some false) c.as_slice.ensures.value flag)))) so_far,
    )
