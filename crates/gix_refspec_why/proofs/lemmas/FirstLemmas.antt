-- The first element of a list of which a property holds, and relations of lists element by element.
use Rattle.gix_refspec_why.proofs.Common.{◌≡◌, ◌⊎◌, ◌<◌, ◌+◌, ◌++◌, ◌∷◌, ◌∙◌, [], ℕ, zero, suc, List, Option, None}
use Rattle.gix_refspec_why.proofs.Common.{Some, inl, inr, refl, sym, ap, subst, arith, length, length-append}
use Rattle.gix_refspec_why.proofs.Common.{take, AllByRecursion, all_join, slice_get}
use Rattle.gix_refspec_why.proofs.Common.{slice_get_within}
use Rattle.gix_refspec_why.proofs.Common.{AreEach, FirstOf, IsFirstWith}
use Rattle.gix_refspec_why.proofs.Common.{take_more, get_or_from_slice_get}

-- an element of a list is one of a longer list
pub slice_get_left : {X : Type 0} (xs ys : List X) (k : ℕ) (x : X) → slice_get xs k ≡ Some x
    → slice_get (xs ++ ys) k ≡ Some x
slice_get_left [] ys k x at = cc (at)
slice_get_left (y ∷ xs) ys zero x at = at
slice_get_left (y ∷ xs) ys (suc k) x at = slice_get_left xs ys k x at

-- the element that was appended
pub slice_get_end : {X : Type 0} (xs : List X) (x : X) → slice_get (xs ++ x ∷ []) (length xs) ≡ Some x
slice_get_end [] x = refl
slice_get_end (y ∷ xs) x = slice_get_end xs x

-- an element of a list with one appended is an old one, or the new one
pub slice_get_cases : {X : Type 0} (xs : List X) (x : X) (k : ℕ) (z : X) → slice_get (xs ++ x ∷ []) k ≡ Some z
    → (slice_get xs k ≡ Some z) ⊎ ((k ≡ length xs) × (z ≡ x))
slice_get_cases [] x zero z at = inr (refl, cc)
slice_get_cases [] x (suc k) z at = absurd (cc)
slice_get_cases (y ∷ xs) x zero z at = inl at
slice_get_cases (y ∷ xs) x (suc k) z at = elim (slice_get_cases xs x k z at)
    [ inl old ↦ inl old | inr new ↦ inr (omega (arith, new.0), new.1) ]

-- what is before an index of a list is before it in a longer list
pub take_left : {X : Type 0} (xs ys : List X) (k : ℕ) (x : X) → slice_get xs k ≡ Some x → take k (xs ++ ys) ≡ take k xs
take_left [] ys k x at = cc (at)
take_left (y ∷ xs) ys zero x at = refl
take_left (y ∷ xs) ys (suc k) x at = ap (λ l. y ∷ l) (take_left xs ys k x at)

-- all of a list is before its end
pub take_end : {X : Type 0} (xs : List X) (x : X) → take (length xs) (xs ++ x ∷ []) ≡ xs
take_end [] x = refl
take_end (y ∷ xs) x = ap (λ l. y ∷ l) (take_end xs x)

-- the elements before an index, up to an earlier one
pub take_lower : {X : Type 0} (xs : List X) (j k : ℕ) (x : X) → slice_get (take k xs) j ≡ Some x
    → (j < k) × (slice_get xs j ≡ Some x) × (take j (take k xs) ≡ take j xs)
take_lower [] j zero x at = absurd (cc)
take_lower [] j (suc k) x at = absurd (cc)
take_lower (y ∷ xs) j zero x at = absurd (cc)
take_lower (y ∷ xs) zero (suc k) x at = (omega arith, at, refl)
take_lower (y ∷ xs) (suc j) (suc k) x at = let (below, there, same) = take_lower xs j k x at in
    (omega (arith, below), there, ap (λ l. y ∷ l) same)

module _ {X : Type 0} (P : X → Type 0) where
  -- the first element of a list is that of a longer list
  pub with_more : (l m : List X) (k : ℕ) (x : X) → IsFirstWith P l k x → IsFirstWith P (l ++ m) k x
  with_more l m k x first = record {
    at = slice_get_left l m k x first.at;
    holds = first.holds;
    before = subst (AllByRecursion (λ y. ¬ (P y))) (sym (take_left l m k x first.at)) first.before;
  }

  -- an element of which P doesn't hold changes nothing
  pub first_same : (l : List X) (x : X) (found : Option ℕ) → ¬ (P x) → FirstOf P l found → FirstOf P (l ++ x ∷ []) found
  first_same l x None none all = all_join (λ y. ¬ (P y)) l (x ∷ []) all (none, tt)
  first_same l x (Some k) none (y, first) = (y, with_more l (x ∷ []) k y first)

  -- nor does any after the first of which it holds
  pub first_kept : (l : List X) (x : X) (k : ℕ) → FirstOf P l (Some k) → FirstOf P (l ++ x ∷ []) (Some k)
  first_kept l x k (y, first) = (y, with_more l (x ∷ []) k y first)

  -- the first of which it holds
  pub first_new : (l : List X) (x : X) → P x → FirstOf P l None → FirstOf P (l ++ x ∷ []) (Some (length l))
  first_new l x holds none = (
    x,
    record {
      at = slice_get_end l x;
      holds = holds;
      before = subst (AllByRecursion (λ y. ¬ (P y))) (sym (take_end l x)) none;
    },
  )

-- one more pair of which the relation holds
pub each_more : {X Y : Type 0} (R : ℕ → X → Y → Type 0) (xs : List X) (ys : List Y) (x : X) (y : Y) → AreEach R xs ys
    → R (length xs) x y → AreEach R (xs ++ x ∷ []) (ys ++ y ∷ [])
each_more R xs ys x y are here = record {
  count = simp length-append (ap (λ n. n + 1) are.count);
  each = λ k v w at_v at_w. elim (slice_get_cases xs x k v at_v) [
    | inl old ↦
        elim (slice_get_cases ys y k w at_w) [
          | inl also ↦ are.each k v w old also
          | inr (last, same) ↦ absurd (let within = slice_get_within xs k v old in let long =
              are.count in omega (arith, within, last, long))
        ]
    | inr (last, same) ↦
        elim (slice_get_cases ys y k w at_w) [
          | inl also ↦ absurd (let within = slice_get_within ys k w also in let long =
              are.count in omega (arith, within, last, long))
          | inr (there, also) ↦ subst (λ k. R k v w) (sym last) (rw (same, also) here)
        ]
  ];
}

-- the first element before an index is that of the list
pub first_before : {X : Type 0} (P : X → Type 0) (l : List X) (k j : ℕ) → FirstOf P (take k l) (Some j)
    → (j < k) × ((x : X) × IsFirstWith P l j x)
first_before P l k j (x, first) =
    let (below, at, same) = take_lower l j k x first.at in (
      below,
      (
        x,
        record {
          at = at;
          holds = first.holds;
          before = subst (AllByRecursion (λ y. ¬ (P y))) same first.before;
        },
      ),
    )

-- the elements before the next index
pub take_next : {X : Type 0} (xs : List X) (i : ℕ) (x : X) → slice_get xs i ≡ Some x
    → take (i + 1) xs ≡ take i xs ++ x ∷ []
take_next xs i x at = take_more xs i x (slice_get_within xs i x at)
    ∙ ap (λ y. take i xs ++ y ∷ []) (get_or_from_slice_get xs i x x at)
