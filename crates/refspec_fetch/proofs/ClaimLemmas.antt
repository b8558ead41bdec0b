-- Sorted claims, and where they are split.
use Rattle.std.proofs.Common.{◌≡◌, ◌≢◌, ◌⊎◌, inl, inr, ◌↔◌, ℕ, zero, suc, ◌+◌, ◌<◌, ◌≤◌, List, [], ◌∷◌, ◌++◌, Some}
use Rattle.std.proofs.Common.{IsPermutation, length, map, take, drop, get_or, refl, sym, ap, ◌∙◌, subst, arith}
use Rattle.std.specs.List.{AllByRecursion, Contains}
use Rattle.std.specs.List.Sorted.{IsSorted, IsStrictlySortedBy}
use Rattle.std.specs.declared.cmp.Ordering.TheVariants.{Less, Equal}
use Rattle.std.specs.Ordering.{nat_cmp, ordering_then}
use Rattle.std.specs.Cmp.{IsTotalOrder}
use Rattle.std.specs.Cmp.Lexicographic.{slice_cmp, nat_list_cmp_total}
use Rattle.std.proofs.lemmas.Bool.{cases_lt}
use Rattle.std.proofs.lemmas.Cmp.{nat_cmp_total, on_total, ranked, then_total}
use Rattle.std.proofs.lemmas.List.{drop_more, get_or-map, length-drop, length-map, map-append, take-append-drop}
use Rattle.std.proofs.lemmas.List.Elements.{All-from_recursion}
use Rattle.std.proofs.lemmas.List.Quantifiers.{all_pairs_push}
use Rattle.std.proofs.lemmas.List.Sorted.{Contains-permutation, IsPermutation-map, IsPermutation-sym}
use Rattle.std.proofs.lemmas.Map.Keys.{sorted_from_all_adjacent}
use Rattle.std.proofs.lemmas.Option.{slice_get_within}
use Rattle.gix_refspec_plan.specs.Matching.Plan.{Planned}
use Rattle.gix_refspec_match.specs.Private.Kept.{Rises}
use Rattle.gix_refspec_match.specs.Private.Orders.{both_equal}
use Rattle.gix_refspec_match.proofs.lemmas.keep.RepeatLemmas.{apart_places}
use Rattle.gix_refspec.proofs.lemmas.validate.FirstLemmas.{Has, Increase}
use Rattle.gix_refspec.proofs.lemmas.validate.UpdateLemmas.{below_trans, later as update_later, strict_right, turned}
use Rattle.gix_refspec_text.proofs.lemmas.lists.AllLemmas.{all_right, all_join, all_weaker}
use Rattle.gix_refspec_text.proofs.lemmas.lists.NumberLemmas.{upto}
use Rattle.gix_refspec_text.proofs.lemmas.lists.OrderLemmas.{not_below_itself}
use Rattle.refspec_fetch.specs.declared.conflicts.Claimed.{Claimed}
use Rattle.refspec_fetch.specs.Conflicts.{AreOrdered, HasClaim, IsInConflictAt, IsRun, claim_cmp, goal_of}

-- the indexes of claims
abbrev pub claimed_indexes : List Claimed → List ℕ
claimed_indexes cs = map (λ c. c.index) cs

-- the claims of the updates before index p that are in conflict, by index
pub record AreClaimsUpto (ps : List Planned) (p : ℕ) (cs : List Claimed) : Type 0 where
  pub are : (k : ℕ) (d : List ℕ) → HasClaim cs k d ↔ ((k < p) × IsInConflictAt ps k d)
  pub rises : Rises (claimed_indexes cs)
  pub below : AllByRecursion (λ n. n < p) (claimed_indexes cs)

-- a greater claim has a greater destination, or the same one and a greater index
pub later : (x y : Claimed) → claim_cmp x y ≡ Less → (slice_cmp nat_cmp x.destination.now y.destination.now ≡ Less)
    ⊎ ((x.destination.now ≡ y.destination.now) × (x.index < y.index))
later x y is = update_later (record { destination = x.destination; index = x.index })
    (record { destination = y.destination; index = y.index }) is

claim_total : IsTotalOrder claim_cmp
claim_total = then_total (on_total (λ (c : Claimed). c.destination.now) nat_list_cmp_total)
    (on_total (λ (c : Claimed). c.index) nat_cmp_total)

-- sorted claims are strictly increasing, since their indexes differ
strict_from_sorted : (xs ys : List Claimed) → IsPermutation xs ys → Rises (claimed_indexes xs) → IsSorted claim_cmp ys
    → IsStrictlySortedBy claim_cmp ys
unfolding IsStrictlySortedBy
strict_from_sorted xs [] moved rises sorted = tt
strict_from_sorted xs (c ∷ cs) moved rises sorted =
    let ys = c ∷ cs in
    sorted_from_all_adjacent claim_total ys c (λ i below.
    let x = get_or ys i c in
    let y = get_or ys (i + 1) c in
    turned (claim_cmp y x) (claim_cmp x y) (claim_total.antisymm x y) (sorted i c (omega arith) below)
    (λ tied. apart_places (claimed_indexes xs) (claimed_indexes ys)
    (IsPermutation-map (λ (u : Claimed). u.index) xs ys moved) rises i (i + 1) 0 (omega arith)
    (omega (arith, below, length-map ys (λ (u : Claimed). u.index)))
    (get_or-map (λ (u : Claimed). u.index) ys i c 0 (omega (arith, below))
    ∙ sym (ranked y.index x.index Equal
    (sym (both_equal (slice_cmp nat_cmp y.destination.now x.destination.now) (nat_cmp y.index x.index) tied).1))
    ∙ sym (get_or-map (λ (u : Claimed). u.index) ys (i + 1) c 0 below))))

-- a claim of a list, as an element of it
claim_within : (cs : List Claimed) (k : ℕ) (d : List ℕ) → HasClaim cs k d → (c : Claimed) × Contains cs c
    × (c.index ≡ k) × (c.destination.now ≡ d)
claim_within [] k d has = absurd has
claim_within (c ∷ cs) k d (inl is) = (c, (0, omega arith, refl), is.0, is.1)
claim_within (c ∷ cs) k d (inr has) = let at = claim_within cs k d has in
    (at.0, (suc at.1.0, (let below = at.1.1 in omega (arith, below)), at.1.2), at.2, at.3)

claim_at : (cs : List Claimed) (i : ℕ) (c : Claimed) (k : ℕ) (d : List ℕ) → i < length cs → get_or cs i c ≡ c
    → c.index ≡ k → c.destination.now ≡ d → HasClaim cs k d
claim_at [] i c k d below is index to = absurd (omega arith)
claim_at (x ∷ cs) zero c k d below is index to =
    inl (ap (λ (y : Claimed). y.index) is ∙ index, ap (λ (y : Claimed). y.destination.now) is ∙ to)
claim_at (x ∷ cs) (suc i) c k d below is index to = inr (claim_at cs i c k d (omega arith) is index to)

HasClaim-permuted : (xs ys : List Claimed) (k : ℕ) (d : List ℕ) → IsPermutation xs ys → HasClaim xs k d
    → HasClaim ys k d
HasClaim-permuted xs ys k d moved has =
    let c = claim_within xs k d has in
    let at = Contains-permutation xs ys c.0 moved c.1 in
    claim_at ys at.0 c.0 k d at.1 at.2 c.2 c.3

pub HasClaim-left : (xs ys : List Claimed) (k : ℕ) (d : List ℕ) → HasClaim xs k d → HasClaim (xs ++ ys) k d
HasClaim-left [] ys k d has = absurd has
HasClaim-left (x ∷ xs) ys k d (inl is) = inl is
HasClaim-left (x ∷ xs) ys k d (inr has) = inr (HasClaim-left xs ys k d has)

pub HasClaim-right : (xs ys : List Claimed) (k : ℕ) (d : List ℕ) → HasClaim ys k d → HasClaim (xs ++ ys) k d
HasClaim-right [] ys k d has = has
HasClaim-right (x ∷ xs) ys k d has = inr (HasClaim-right xs ys k d has)

pub HasClaim-cases : (xs ys : List Claimed) (k : ℕ) (d : List ℕ) → HasClaim (xs ++ ys) k d → HasClaim xs k d
    ⊎ HasClaim ys k d
HasClaim-cases [] ys k d has = inr has
HasClaim-cases (x ∷ xs) ys k d (inl is) = inl (inl is)
HasClaim-cases (x ∷ xs) ys k d (inr has) = elim (HasClaim-cases xs ys k d has) [
  | inl left ↦ inl (inr left)
  | inr right ↦ inr right
]

-- the sorted claims are those of all updates
pub claims_sorted : (ps : List Planned) (p : ℕ) (cs new : List Claimed) → length ps ≤ p → AreClaimsUpto ps p cs
    → IsPermutation cs new
    → IsSorted (λ (x : Claimed) (y : Claimed). ordering_then (slice_cmp nat_cmp x.destination.now y.destination.now)
    (nat_cmp x.index y.index)) new → AreOrdered ps new
claims_sorted ps p cs new past made moved sorted = record {
  are = λ k d. (
    (λ has. ((made.are k d).0 (HasClaim-permuted new cs k d (IsPermutation-sym cs new moved) has)).1),
    (λ is. HasClaim-permuted cs new k d moved
        ((made.are k d).1 ((let below = slice_get_within ps k is.0 is.1 in omega (arith, below, past)), is))),
  );
  order = strict_from_sorted cs new moved made.rises sorted;
}

one_goal : (ps : List Planned) (k : ℕ) (d e : List ℕ) → IsInConflictAt ps k d → IsInConflictAt ps k e → d ≡ e
one_goal ps k d e (p, is_p, judged, to_d) (q, is_q, also, to_e) =
    let same : Some p ≡ Some q = sym is_p ∙ is_q in
    let one : p ≡ q = cc in
    sym to_d ∙ ap goal_of one ∙ to_e

-- one more claim is appended
pub claims_more : (ps : List Planned) (cs new : List Claimed) (c : Claimed) → new ≡ cs ++ c ∷ []
    → IsInConflictAt ps c.index c.destination.now → AreClaimsUpto ps c.index cs → AreClaimsUpto ps (c.index + 1) new
claims_more ps cs new c is claims made =
    let indexes : claimed_indexes new ≡ claimed_indexes cs ++ c.index ∷ [] = ap claimed_indexes is
    ∙ map-append (λ (x : Claimed). x.index) cs (c ∷ []) in record {
      are = λ k d.
          subst (λ (xs : List Claimed). HasClaim xs k d ↔ ((k < c.index + 1) × IsInConflictAt ps k d)) (sym is) (
            (λ has. elim (HasClaim-cases cs (c ∷ []) k d has) [
              | inl old ↦ let told = (made.are k d).0 old in ((let less = told.0 in omega (arith, less)), told.1)
              | inr last ↦ only last
            ]),
            (λ told. elim (upto k c.index told.0) [
              | inl less ↦ HasClaim-left cs (c ∷ []) k d ((made.are k d).1 (less, told.1))
              | inr here ↦ HasClaim-right cs (c ∷ []) k d
                  (inl (
                    sym here,
                    one_goal ps k c.destination.now d
                        (subst (λ (n : ℕ). IsInConflictAt ps n c.destination.now) (sym here) claims) told.1,
                  ))
            ]),
          );
      rises = subst Rises (sym indexes) (all_pairs_push (λ n m. n < m) (claimed_indexes cs) c.index made.rises
          (All-from_recursion (λ n. n < c.index) (claimed_indexes cs) made.below));
      below = subst (λ (ns : List ℕ). AllByRecursion (λ n. n < c.index + 1) ns) (sym indexes)
          (all_join (λ n. n < c.index + 1) (claimed_indexes cs) (c.index ∷ [])
          (all_weaker (λ n. n < c.index) (λ n. n < c.index + 1) (λ n less. omega arith) (claimed_indexes cs) made.below)
          (omega arith, tt));
    }
  where
    only : {k : ℕ} {d : List ℕ} → HasClaim (c ∷ []) k d → (k < c.index + 1) × IsInConflictAt ps k d
    only {k} {d} (inl at) = (
      (let index = at.0 in omega (arith, index)),
      subst (λ (n : ℕ). IsInConflictAt ps n d) at.0 (subst (λ (x : List ℕ). IsInConflictAt ps c.index x) at.1 claims),
    )
    only (inr none) = absurd none

-- an update that isn't in conflict adds no claim
pub claims_same : (ps : List Planned) (p : ℕ) (cs : List Claimed) → ((d : List ℕ) → IsInConflictAt ps p d → ⊥)
    → AreClaimsUpto ps p cs → AreClaimsUpto ps (p + 1) cs
claims_same ps p cs none made = record {
  are = λ k d. (
    (λ has. let told = (made.are k d).0 has in ((let less = told.0 in omega (arith, less)), told.1)),
    (λ told. elim (upto k p told.0) [
      | inl less ↦ (made.are k d).1 (less, told.1)
      | inr here ↦ absurd (none d (subst (λ (n : ℕ). IsInConflictAt ps n d) here told.1))
    ]),
  );
  rises = made.rises;
  below = all_weaker (λ n. n < p) (λ n. n < p + 1) (λ n less. omega arith) (claimed_indexes cs) made.below;
}

-- if the destination of a claim is greater than x, so is that of a greater claim
behind : (x : List ℕ) (o y : Claimed) → slice_cmp nat_cmp x o.destination.now ≡ Less → claim_cmp o y ≡ Less
    → slice_cmp nat_cmp x y.destination.now ≡ Less
behind x o y first is = elim (later o y is) [
  | inl less ↦ below_trans x o.destination.now y.destination.now first less
  | inr tied ↦ subst (λ (d : List ℕ). slice_cmp nat_cmp x d ≡ Less) tied.0 first
]

all_behind : (x : List ℕ) (cs : List Claimed) → IsStrictlySortedBy claim_cmp cs
    → AllByRecursion (λ c. (slice_cmp nat_cmp x c.destination.now ≡ Less) ⊎ (x ≡ c.destination.now)) cs
    → ((c : Claimed) (rest : List Claimed) → cs ≡ c ∷ rest → x ≢ c.destination.now)
    → AllByRecursion (λ c. slice_cmp nat_cmp x c.destination.now ≡ Less) cs
unfolding IsStrictlySortedBy
all_behind x [] strict from other = tt
all_behind x (c ∷ cs) strict from other =
    let first : slice_cmp nat_cmp x c.destination.now ≡ Less = elim from.0 [
      | inl less ↦ less
      | inr same ↦ absurd (other c cs refl same)
    ] in (
      first,
      all_weaker (λ y. claim_cmp c y ≡ Less) (λ y. slice_cmp nat_cmp x y.destination.now ≡ Less)
          (λ y is. behind x c y first is) cs strict.0,
    )

-- if the claims before an index have the first one's destination, and the one at the index hasn't, the index splits
-- off a run
pub split_at : (cs : List Claimed) (n : ℕ) (d : Claimed) → 0 < length cs → IsStrictlySortedBy claim_cmp cs
    → AllByRecursion (λ c. c.destination.now ≡ (get_or cs 0 d).destination.now) (take n cs)
    → (n < length cs → (get_or cs n d).destination.now ≢ (get_or cs 0 d).destination.now)
    → IsRun (take n cs) (drop n cs)
unfolding IsStrictlySortedBy
split_at [] n d some strict same end = absurd (omega arith)
split_at (h ∷ cs) zero d some strict same end = absurd (end (omega arith) refl)
split_at (h ∷ cs) (suc n) d some strict same end =
    let split : take n cs ++ drop n cs ≡ cs = take-append-drop n cs in record {
      destination = h.destination.now;
      same = same;
      beyond = all_behind h.destination.now (drop n cs)
          (strict_right claim_cmp (take n cs) (drop n cs)
          (subst (λ (xs : List Claimed). IsStrictlySortedBy claim_cmp xs) (sym split) strict.1))
          (all_weaker (λ y. claim_cmp h y ≡ Less) (λ y. (slice_cmp nat_cmp h.destination.now y.destination.now ≡ Less)
          ⊎ (h.destination.now ≡ y.destination.now)) not_before (drop n cs)
          (all_right (λ y. claim_cmp h y ≡ Less) (take n cs) (drop n cs)
          (subst (λ (xs : List Claimed). AllByRecursion (λ y. claim_cmp h y ≡ Less) xs) (sym split) strict.0)))
          (λ c rest is same2. elim (cases_lt n (length cs)) [
            | inl inside ↦
                let here : get_or cs n d ∷ drop (n + 1) cs ≡ c ∷ rest = sym (drop_more cs n d inside) ∙ is in
                let one : get_or cs n d ≡ c = cc in
                end (omega arith) (ap (λ (x : Claimed). x.destination.now) one ∙ sym same2)
            | inr past ↦ let none : length (drop n cs) ≡ 0 = omega (arith, length-drop n cs) in let some2 :
                length (drop n cs) ≡ suc (length rest) = ap length is in absurd (omega (arith, none, some2))
          ]);
    }
  where
    not_before : (y : Claimed) → claim_cmp h y ≡ Less → (slice_cmp nat_cmp h.destination.now y.destination.now ≡ Less)
        ⊎ (h.destination.now ≡ y.destination.now)
    not_before y is = elim (later h y is) [
      | inl less ↦ inl less
      | inr tied ↦ inr tied.0
    ]

-- the indexes of claims of one destination are those of its claims
pub indexes_to_one : (x : List ℕ) (cs : List Claimed) (k : ℕ) → AllByRecursion (λ c. c.destination.now ≡ x) cs
    → Has (claimed_indexes cs) k ↔ HasClaim cs k x
indexes_to_one x [] k same = ((λ none. none), (λ none. none))
indexes_to_one x (c ∷ cs) k same = (
  (λ has. elim has [
    | inl here ↦ inl (here, same.0)
    | inr there ↦ inr ((indexes_to_one x cs k same.1).0 there)
  ]),
  (λ has. elim has [
    | inl here ↦ inl here.0
    | inr there ↦ inr ((indexes_to_one x cs k same.1).1 there)
  ]),
)

-- and if the claims are sorted, the indexes are strictly increasing
pub indexes_rise : (x : List ℕ) (cs : List Claimed) → AllByRecursion (λ c. c.destination.now ≡ x) cs
    → IsStrictlySortedBy claim_cmp cs → Increase (claimed_indexes cs)
unfolding IsStrictlySortedBy
indexes_rise x [] same strict = tt
indexes_rise x (c ∷ cs) same strict = (each cs same.1 strict.0, indexes_rise x cs same.1 strict.1)
  where
    each : (ys : List Claimed) → AllByRecursion (λ y. y.destination.now ≡ x) ys
        → AllByRecursion (λ y. claim_cmp c y ≡ Less) ys → AllByRecursion (λ n. c.index < n) (claimed_indexes ys)
    each [] same2 less = tt
    each (y ∷ ys) same2 less = (one y same2.0 less.0, each ys same2.1 less.1)
      where
        one : (y : Claimed) → y.destination.now ≡ x → claim_cmp c y ≡ Less → c.index < y.index
        one y to_x is = elim (later c y is) [
          | inl below ↦
              absurd (not_below_itself x (subst (λ (d : List ℕ). slice_cmp nat_cmp d x ≡ Less) same.0
              (subst (λ (d : List ℕ). slice_cmp nat_cmp c.destination.now d ≡ Less) to_x below)))
          | inr tied ↦ tied.1
        ]
