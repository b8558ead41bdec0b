-- Sorted updates, and where they are split.
use Rattle.gix_refspec.proofs.Common.{Ordering, all_left, all_right, all_join, all_weaker, ◌≡◌, ◌≢◌, ◌⊎◌, inl, inr, ◌↔◌}
use Rattle.gix_refspec.proofs.Common.{ℕ, zero, suc, ◌+◌, ◌<◌, ◌≤◌, List, [], ◌∷◌, ◌++◌, None, Some, option_map, Bool}
use Rattle.gix_refspec.proofs.Common.{true, false, not, length, map, take, drop, get_or, refl, sym, ap, ◌∙◌, subst}
use Rattle.gix_refspec.proofs.Common.{arith, AllByRecursion, Contains, slice_get, IsPermutation, IsSorted}
use Rattle.gix_refspec.proofs.Common.{IsStrictlySortedBy, Less, Equal, is_lt, nat_cmp, ordering_then, ordering_reverse}
use Rattle.gix_refspec.proofs.Common.{slice_cmp, nat_list_cmp_total, false≢true, not-false, not-true, bytes_eq-Decides}
use Rattle.gix_refspec.proofs.Common.{bytes_eq, get_or-map, length-map, map-append, take-append-drop, take_more}
use Rattle.gix_refspec.proofs.Common.{length-drop, All-from_recursion, slice_get-map, slice_get_read, slice_get_within}
use Rattle.gix_refspec.proofs.Common.{Update, Mapping, NameRef, Mapped, mapped_of, name_bytes, IsFlagged, Rises}
use Rattle.gix_refspec.proofs.Common.{AreUpdates, GoesTo, HasUpdate, IsRun, update_cmp, updated_indexes, same_texts}
use Rattle.gix_refspec.proofs.Common.{both_equal, rules, same_Some, by_cases, get_or-drop, add-zero, apart_places}
use Rattle.gix_refspec_text.proofs.lemmas.lists.NumberLemmas.{upto}
use Rattle.std.proofs.lemmas.Cmp.{nat_cmp_total, on_total, ranked, then_total}
use Rattle.std.proofs.lemmas.List.Quantifiers.{all_pairs_push}
use Rattle.std.proofs.lemmas.List.Sorted.{Contains-permutation, IsPermutation-map, IsPermutation-sym}
use Rattle.std.proofs.lemmas.Map.Keys.{sorted_from_all_adjacent}
use Rattle.std.specs.Cmp.{IsTotalOrder}

-- the updates of the mappings before index p that have a destination and aren't flagged, by index
pub record AreUpdatesUpto (l : List Mapped) (flags : List Bool) (p : ℕ) (cs : List Update) : Type 0 where
  pub are : (k : ℕ) (d : List ℕ) → HasUpdate cs k d ↔ ((k < p) × (GoesTo l k d × ¬ (IsFlagged flags k)))
  pub rises : Rises (updated_indexes cs)
  pub below : AllByRecursion (λ n. n < p) (updated_indexes cs)

pub below_trans : (x y z : List ℕ) → slice_cmp nat_cmp x y ≡ Less → slice_cmp nat_cmp y z ≡ Less
    → slice_cmp nat_cmp x z ≡ Less
below_trans = nat_list_cmp_total.trans

-- a greater update has a greater destination, or the same one and a greater index
pub later : (x y : Update) → update_cmp x y ≡ Less → (slice_cmp nat_cmp x.destination.now y.destination.now ≡ Less)
    ⊎ ((x.destination.now ≡ y.destination.now) × (x.index < y.index))
later x y is = grind (arith, same_texts x.destination.now y.destination.now, ranked x.index y.index)

update_total : IsTotalOrder update_cmp
update_total = then_total (on_total (λ (c : Update). c.destination.now) nat_list_cmp_total)
    (on_total (λ (c : Update). c.index) nat_cmp_total)

pub strict_left : {X : Type 0} (cmp : X → X → Ordering) (xs ys : List X) → IsStrictlySortedBy cmp (xs ++ ys)
    → IsStrictlySortedBy cmp xs
unfolding IsStrictlySortedBy
strict_left cmp [] ys strict = tt
strict_left cmp (x ∷ xs) ys strict = (all_left (λ y. cmp x y ≡ Less) xs ys strict.0, strict_left cmp xs ys strict.1)

pub strict_right : {X : Type 0} (cmp : X → X → Ordering) (xs ys : List X) → IsStrictlySortedBy cmp (xs ++ ys)
    → IsStrictlySortedBy cmp ys
unfolding IsStrictlySortedBy
strict_right cmp [] ys strict = strict
strict_right cmp (x ∷ xs) ys strict = strict_right cmp xs ys strict.1

-- what is neither less nor equal is less when turned round
pub turned : (o r : Ordering) → r ≡ ordering_reverse o → is_lt o ≡ false → o ≢ Equal → r ≡ Less
turned o r is told apart = grind arith

-- sorted updates are strictly increasing, since their indexes differ
strict_from_sorted : (xs ys : List Update) → IsPermutation xs ys → Rises (updated_indexes xs) → IsSorted update_cmp ys
    → IsStrictlySortedBy update_cmp ys
unfolding IsStrictlySortedBy
strict_from_sorted xs [] moved rises sorted = tt
strict_from_sorted xs (c ∷ cs) moved rises sorted =
    let ys = c ∷ cs in
    sorted_from_all_adjacent update_total ys c (λ i below.
    let x = get_or ys i c in
    let y = get_or ys (i + 1) c in
    turned (update_cmp y x) (update_cmp x y) (update_total.antisymm x y) (sorted i c (omega arith) below)
    (λ tied. apart_places (updated_indexes xs) (updated_indexes ys)
    (IsPermutation-map (λ (u : Update). u.index) xs ys moved) rises i (i + 1) 0 (omega arith)
    (omega (arith, below, length-map ys (λ (u : Update). u.index)))
    (get_or-map (λ (u : Update). u.index) ys i c 0 (omega (arith, below))
    ∙ sym (ranked y.index x.index Equal
    (sym (both_equal (slice_cmp nat_cmp y.destination.now x.destination.now) (nat_cmp y.index x.index) tied).1))
    ∙ sym (get_or-map (λ (u : Update). u.index) ys (i + 1) c 0 below))))

pub update_within : (cs : List Update) (k : ℕ) (d : List ℕ) → HasUpdate cs k d → (c : Update) × Contains cs c
    × (c.index ≡ k) × (c.destination.now ≡ d)
update_within [] k d has = absurd has
update_within (c ∷ cs) k d (inl is) = (c, (0, omega arith, refl), is.0, is.1)
update_within (c ∷ cs) k d (inr has) = let at = update_within cs k d has in
    (at.0, (suc at.1.0, omega (arith, at.1.1), at.1.2), at.2, at.3)

pub update_at : (cs : List Update) (i : ℕ) (c : Update) (k : ℕ) (d : List ℕ) → i < length cs → get_or cs i c ≡ c
    → c.index ≡ k → c.destination.now ≡ d → HasUpdate cs k d
update_at [] i c k d below is index to = absurd (omega arith)
update_at (x ∷ cs) zero c k d below is index to =
    inl (ap (λ (y : Update). y.index) is ∙ index, ap (λ (y : Update). y.destination.now) is ∙ to)
update_at (x ∷ cs) (suc i) c k d below is index to = inr (update_at cs i c k d (omega arith) is index to)

HasUpdate-permuted : (xs ys : List Update) (k : ℕ) (d : List ℕ) → IsPermutation xs ys → HasUpdate xs k d
    → HasUpdate ys k d
HasUpdate-permuted xs ys k d moved has =
    let c = update_within xs k d has in
    let at = Contains-permutation xs ys c.0 moved c.1 in
    update_at ys at.0 c.0 k d at.1 at.2 c.2 c.3

pub HasUpdate-append : (xs ys : List Update) (k : ℕ) (d : List ℕ) → HasUpdate (xs ++ ys) k d
    ↔ (HasUpdate xs k d ⊎ HasUpdate ys k d)
HasUpdate-append [] ys k d = ((λ has. inr has), λ either. by_cases either (λ has. absurd has) (λ has. has))
HasUpdate-append (x ∷ xs) ys k d = let rest = HasUpdate-append xs ys k d in grind (arith, rest)

pub updates_sorted : (l : List Mapped) (flags : List Bool) (p : ℕ) (cs new : List Update) → length l ≤ p
    → AreUpdatesUpto l flags p cs → IsPermutation cs new
    → IsSorted (λ (x : Update) (y : Update). ordering_then (slice_cmp nat_cmp x.destination.now y.destination.now)
    (nat_cmp x.index y.index)) new → AreUpdates l flags new
updates_sorted l flags p cs new past made moved sorted = record {
  are = λ k d. (
    (λ has. ((made.are k d).0 (HasUpdate-permuted new cs k d (IsPermutation-sym cs new moved) has)).1),
    (λ goes. HasUpdate-permuted cs new k d moved
        ((made.are k d).1 (omega (arith, slice_get_within l k goes.0.0 goes.0.1, past), goes))),
  );
  order = strict_from_sorted cs new moved made.rises sorted;
}

one_index : (l : List Mapped) (k : ℕ) (d e : List ℕ) → GoesTo l k d → GoesTo l k e → d ≡ e
one_index l k d e to_d to_e = search (rules, same_Some)

pub updates_more : (l : List Mapped) (flags : List Bool) (cs new : List Update) (c : Update) → new ≡ cs ++ c ∷ []
    → GoesTo l c.index c.destination.now → ¬ (IsFlagged flags c.index) → AreUpdatesUpto l flags c.index cs
    → AreUpdatesUpto l flags (c.index + 1) new
updates_more l flags cs new c is goes unflagged made =
    let indexes : updated_indexes new ≡ updated_indexes cs ++ c.index ∷ [] = ap updated_indexes is
    ∙ map-append (λ (x : Update). x.index) cs (c ∷ []) in record {
      are = λ k d. rw is (
        (λ has. by_cases ((HasUpdate-append cs (c ∷ []) k d).0 has)
            (λ old. let told = (made.are k d).0 old in (omega (arith, told.0), told.1))
            (λ last. by_cases last (λ at. rw (← at.0, ← at.1) (omega arith, (goes, unflagged))) (λ none. absurd none))),
        (λ told. by_cases (upto k c.index told.0)
            (λ less. (HasUpdate-append cs (c ∷ []) k d).1 (inl ((made.are k d).1 (less, told.1))))
            (λ here. (HasUpdate-append cs (c ∷ []) k d).1
            (inr (inl (sym here, one_index l k c.destination.now d (rw here goes) told.1.0))))),
      );
      rises = rw indexes (all_pairs_push (λ n m. n < m) (updated_indexes cs) c.index made.rises
          (All-from_recursion (λ n. n < c.index) (updated_indexes cs) made.below));
      below = rw indexes (all_join (λ n. n < c.index + 1) (updated_indexes cs) (c.index ∷ [])
          (all_weaker (λ n. n < c.index) (λ n. n < c.index + 1) (λ n less. omega arith) (updated_indexes cs) made.below)
          (omega arith, tt));
    }

pub updates_same : (l : List Mapped) (flags : List Bool) (p : ℕ) (cs : List Update)
    → ((d : List ℕ) → GoesTo l p d → ¬ (IsFlagged flags p) → ⊥) → AreUpdatesUpto l flags p cs
    → AreUpdatesUpto l flags (p + 1) cs
updates_same l flags p cs none made = record {
  are = λ k d. (
    (λ has. let told = (made.are k d).0 has in (omega (arith, told.0), told.1)),
    (λ told. by_cases (upto k p told.0) (λ less. (made.are k d).1 (less, told.1))
        (λ here. absurd (none d (rw here at told.1.0) (rw here at told.1.1)))),
  );
  rises = made.rises;
  below = all_weaker (λ n. n < p) (λ n. n < p + 1) (λ n less. omega arith) (updated_indexes cs) made.below;
}

pub all_more : {X : Type 0} (P : X → Type 0) (xs : List X) (i : ℕ) (d : X) → i < length xs
    → AllByRecursion P (take i xs) → P (get_or xs i d) → AllByRecursion P (take (i + 1) xs)
all_more {X} P xs i d below all one = subst (λ (ys : List X). AllByRecursion P ys) (sym (take_more xs i d below))
    (all_join P (take i xs) (get_or xs i d ∷ []) all (one, tt))

pub differ_from_test : (xs ys : List ℕ) (b : Bool) → b ≡ not (bytes_eq xs ys) → b ≡ true → xs ≢ ys
differ_from_test xs ys b is told same =
    false≢true (sym (not-true (bytes_eq xs ys) (sym is ∙ told)) ∙ (bytes_eq-Decides xs ys).1 same)

pub same_from_test : (xs ys : List ℕ) (b : Bool) → b ≡ not (bytes_eq xs ys) → b ≡ false → xs ≡ ys
same_from_test xs ys b is told = (bytes_eq-Decides xs ys).0 (not-false (bytes_eq xs ys) (sym is ∙ told))

behind : (x : List ℕ) (o y : Update) → slice_cmp nat_cmp x o.destination.now ≡ Less → update_cmp o y ≡ Less
    → slice_cmp nat_cmp x y.destination.now ≡ Less
behind x o y first is = by_cases (later o y is) (λ less. below_trans x o.destination.now y.destination.now first less)
    (λ tied. subst (λ (d : List ℕ). slice_cmp nat_cmp x d ≡ Less) tied.0 first)

all_behind : (x : List ℕ) (cs : List Update) (d : Update) → IsStrictlySortedBy update_cmp cs
    → AllByRecursion (λ c. (slice_cmp nat_cmp x c.destination.now ≡ Less) ⊎ (x ≡ c.destination.now)) cs
    → (0 < length cs → x ≢ (get_or cs 0 d).destination.now)
    → AllByRecursion (λ c. slice_cmp nat_cmp x c.destination.now ≡ Less) cs
unfolding IsStrictlySortedBy
all_behind x [] d strict from other = tt
all_behind x (c ∷ cs) d strict from other =
    let first : slice_cmp nat_cmp x c.destination.now ≡ Less = by_cases from.0 (λ less. less)
    (λ same. absurd (other (omega arith) same)) in (
      first,
      all_weaker (λ y. update_cmp c y ≡ Less) (λ y. slice_cmp nat_cmp x y.destination.now ≡ Less)
          (λ y is. behind x c y first is) cs strict.0,
    )

-- where the first update of another destination is, a run is split off
pub split_at : (cs : List Update) (n : ℕ) (d : Update) → 0 < length cs → IsStrictlySortedBy update_cmp cs
    → AllByRecursion (λ c. c.destination.now ≡ (get_or cs 0 d).destination.now) (take n cs)
    → (n < length cs → (get_or cs n d).destination.now ≢ (get_or cs 0 d).destination.now)
    → IsRun (take n cs) (drop n cs)
unfolding IsStrictlySortedBy
split_at [] n d some strict same end = absurd (omega arith)
split_at (h ∷ cs) zero d some strict same end = absurd (end (omega arith) refl)
split_at (h ∷ cs) (suc n) d some strict same end = record {
  destination = h.destination.now;
  same = same;
  beyond = all_behind h.destination.now (drop n cs) d
      (strict_right update_cmp (take n cs) (drop n cs) (rw take-append-drop strict.1))
      (all_weaker (λ y. update_cmp h y ≡ Less) (λ y. (slice_cmp nat_cmp h.destination.now y.destination.now ≡ Less)
      ⊎ (h.destination.now ≡ y.destination.now))
      (λ y is. by_cases (later h y is) (λ less. inl less) (λ tied. inr tied.0)) (drop n cs)
      (all_right (λ y. update_cmp h y ≡ Less) (take n cs) (drop n cs) (rw take-append-drop strict.0)))
      (λ more is. end (omega (arith, more, length-drop n cs)) (sym (rw (get_or-drop n cs 0 d, add-zero) at is)));
}

pub mapped_at : (ms : List Mapping) (k : ℕ) (m : Mapping) → k < length ms → m ≡ get_or ms k m
    → slice_get (map mapped_of ms) k ≡ Some (mapped_of m)
mapped_at ms k m below is = slice_get-map mapped_of ms k ∙ ap (option_map mapped_of)
    (slice_get_read ms (length ms) k m refl below is)

pub goes_nowhere : (ms : List Mapping) (k : ℕ) (m : Mapping) (d : List ℕ) → k < length ms → m ≡ get_or ms k m
    → m.rhs ≡ None → GoesTo (map mapped_of ms) k d → ⊥
goes_nowhere ms k m d below is none goes = search (rules, mapped_at, same_Some)

pub goes_to_name : (ms : List Mapping) (k : ℕ) (m : Mapping) (n : NameRef) → k < length ms → m ≡ get_or ms k m
    → m.rhs ≡ Some n → GoesTo (map mapped_of ms) k (name_bytes n)
goes_to_name ms k m n below is to = (mapped_of m, mapped_at ms k m below is, ap (option_map name_bytes) to)

abbrev pub past_end : Update
past_end = record { destination = record { ref_ptr = (0, 0); now = [] }; index = 0 }
