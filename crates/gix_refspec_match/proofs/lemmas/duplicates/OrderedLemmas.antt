-- Keys and elements with an index, first in the order of their indexes, then sorted.
use Rattle.gix_refspec_match.proofs.Common.{List, [], ◌∷◌, ◌≡◌, ℕ, false, ◌++◌, Equal, sym, ◌∙◌, arith, ap, ◌<◌, length}
use Rattle.gix_refspec_match.proofs.Common.{◌+◌, get_or, ◌≤◌, Bool, length-append, ◌-◌, Ordering, eqb, elements}
use Rattle.gix_refspec_match.proofs.Common.{false≢true, some_element, eq-eqb, ne_eqb, nat_cmp_total, nat_eq_equiv}
use Rattle.gix_refspec_match.proofs.Common.{on_total, tied_back, then_total, get_or_default, get_or_read, All-contains}
use Rattle.gix_refspec_match.proofs.Common.{All-push, Contains-get_or, All-permutation, Contains-permutation, ranks_by}
use Rattle.gix_refspec_match.proofs.Common.{sorted_far, IsDistinct-IsPermutation, IsDistinct-from_apart}
use Rattle.gix_refspec_match.proofs.Common.{apart_from_distinct, ge_from_not_lt, IsTotalOrder, IsPermutation, IsSorted}
use Rattle.gix_refspec_match.proofs.Common.{Contains, ordering_then, is_lt, ordering_reverse, IsDuplicate, IsSecond}
use Rattle.gix_refspec_match.proofs.Common.{AreApart, ArePlaced, HaveEqualElements, IsPlaced, placed_order, Placed}
use Rattle.std.specs.List.{All}

-- a list of length n, of which each has its place as its index
pub record AreNumbered {X : Type 0} (index : X → ℕ) (P : X → Type 0) (xs : List X) (n : ℕ) : Type 0 where
  pub size : length xs ≡ n
  pub each : All P xs
  pub at : (k : ℕ) → k < n → (d : X) → index (get_or xs k d) ≡ k

module _ {X : Type 0} {index : X → ℕ} {P : X → Type 0} {xs : List X} {n : ℕ} (are : AreNumbered index P xs n) where
  pub numbered_more : (x : X) → index x ≡ n → P x → AreNumbered index P (xs ++ x ∷ []) (n + 1)
  numbered_more x here one = record {
    size = omega (arith, length-append xs (x ∷ []), are.size);
    each =
        All-push P xs x are.each one;
    at = λ k below d. grind (arith, elements, are.at k, here);
  }

  pub numbered_apart : AreApart index xs
  numbered_apart i j d before below same = omega (
    arith,
    same,
    before,
    are.at i (omega (arith, are.size)) d,
    are.at j (omega (arith, are.size)) d,
  )

module _ {X : Type 0} (index : X → ℕ) where
  pub apart_permuted : (xs ys : List X) → IsPermutation xs ys → AreApart index xs → AreApart index ys
  apart_permuted xs ys moved apart i j d before below same =
      let e : X → X → Bool = λ x y. eqb (index x) (index y) in
      let still = IsDistinct-IsPermutation e (λ x y. nat_eq_equiv.symm (index x) (index y)) xs ys moved
      (IsDistinct-from_apart e xs (λ k m c first inside. ne_eqb _ _ (apart k m c first inside))) in
      false≢true (sym (apart_from_distinct e ys i j d still before below) ∙ eq-eqb _ _ same)

  -- in a list without a fall, y follows one that is between x and y
  pub second_found : (Le E : X → X → Type 0) (xs : List X) (x y : X)
      → ((i j : ℕ) (d : X) → i ≤ j → j < length xs → Le (get_or xs i d) (get_or xs j d)) → Contains xs x → Contains xs y
      → ¬ (Le y x) → ((m : X) → Le x m → Le m y → E m y) → (at : ℕ) × IsSecond E index xs at (index y)
  second_found Le E xs x y up (a, in_a, is_a) (b, in_b, is_b) apart squeeze =
      let x_at : (d : X) → get_or xs a d ≡ x = λ d. get_or_default xs a d x in_a ∙ is_a in
      let y_at : (d : X) → get_or xs b d ≡ y = λ d. get_or_default xs b d y in_b ∙ is_b in
      let first : a < b = grind (arith, up b a x, x_at x, y_at x, apart) in (
        b,
        record {
          later = omega arith;
          inside = in_b;
          same =
              λ d. grind (arith, squeeze (get_or xs (b - 1) d), up a (b - 1) d, up (b - 1) b d, x_at d, y_at d);
          here =
              λ d. ap index (y_at d);
        },
      )

pub placed_permuted : {T : Type 0} {xs : List T} {ps qs : List (Placed T)} {n : ℕ} → length xs ≤ n
    → AreNumbered (λ p. p.index) (IsPlaced xs) ps n → IsPermutation ps qs → ArePlaced xs qs
placed_permuted {T} {xs} {ps} {qs} {n} past are moved = record {
  each = All-permutation (IsPlaced xs) ps qs moved are.each;
  every = λ k below.
      let inside : k < length ps = omega (arith, below, past, are.size) in
      let d = some_element ps k inside in
      (get_or ps k d, Contains-permutation ps qs _ moved (Contains-get_or ps k d inside), are.at k (omega arith) d);
  apart = apart_permuted (λ (p : Placed T). p.index) ps qs moved (numbered_apart are);
}

module _ {T : Type 0} {order : T → T → Ordering} (total : IsTotalOrder order) where
  pub placed_total : IsTotalOrder (placed_order order)
  placed_total = then_total (on_total (λ (p : Placed T). p.element.now) total)
      (on_total (λ (p : Placed T). p.index) nat_cmp_total)

  -- p doesn't come after q
  abbrev Le : Placed T → Placed T → Type 0
  Le p q = is_lt (placed_order order q p) ≡ false

  pub rising_indexes : (p q : Placed T) → Le p q → HaveEqualElements order q p → p.index ≤ q.index
  rising_indexes p q le same = ge_from_not_lt q.index p.index (rw same at le)

  squeezed : (a m b : Placed T) → Le a m → Le m b → HaveEqualElements order a b → HaveEqualElements order m b
  squeezed a m b after before same =
      tied_back total b.element.now m.element.now
      (between _ _ _
      (rw (total.antisymm m.element.now a.element.now, total.congr a.element.now b.element.now m.element.now same)
      at after) before)
    where
      between : (o u v : Ordering) → is_lt (ordering_then (ordering_reverse o) u) ≡ false
          → is_lt (ordering_then o v) ≡ false → o ≡ Equal
      between o u v left right = grind (arith, left, right)

  module _ {xs : List T} {ps : List (Placed T)} (are : ArePlaced xs ps) (sorted : IsSorted (placed_order order) ps)
    where
      pub not_fallen : (i j : ℕ) (d : Placed T) → i ≤ j → j < length ps → Le (get_or ps i d) (get_or ps j d)
      not_fallen = sorted_far (λ p q. is_lt (placed_order order p q)) (ranks_by placed_total (λ (p : Placed T). p)) ps
          sorted

      pub follower_is_duplicate : (at : ℕ) (q p : Placed T) → 0 < at → at < length ps → q ≡ get_or ps (at - 1) q
          → p ≡ get_or ps at p → HaveEqualElements order q p → IsDuplicate order xs p.index
      follower_is_duplicate at q p some below is_q is_p same =
          let q_at : q ≡ get_or ps (at - 1) p = get_or_read ps (at - 1) q (omega arith) is_q p in
          let a : IsPlaced xs q = rw (← q_at) at (are.each (at - 1) p (omega arith)) in
          let b : IsPlaced xs p = rw (← is_p) at (are.each at p below) in
          let rise = rising_indexes q p (rw (← is_p, ← q_at) at (not_fallen (at - 1) at p (omega arith) below))
          (tied_back total _ _ same) in (
            b.inside,
            (
              q.index,
              (grind (arith, rise, are.apart (at - 1) at p, is_p, q_at)),
              λ d. rw (← a.is d, ← b.is d) same,
            ),
          )

      pub duplicate_follows : (k : ℕ) → IsDuplicate order xs k → (at : ℕ) × IsSecond (HaveEqualElements order)
          (λ p. p.index) ps at k
      duplicate_follows k (below, (j, before, equal)) =
          let (q, has_q, q_at) = are.every j (omega (arith, before, below)) in
          let (p, has_p, p_at) = are.every k below in
          let a = All-contains (IsPlaced xs) ps q are.each has_q in
          let b = All-contains (IsPlaced xs) ps p are.each has_p in
          let same : HaveEqualElements order q p = rw (a.is q.element.now, q_at, b.is q.element.now, p_at)
          (equal q.element.now) in
          rw (← p_at) (second_found (λ x. x.index) Le (HaveEqualElements order) ps q p not_fallen has_q has_p
          (λ le. let rise = rising_indexes p q le same in omega (arith, rise, q_at, p_at, before))
          (λ m after behind. squeezed q m p after behind same))
