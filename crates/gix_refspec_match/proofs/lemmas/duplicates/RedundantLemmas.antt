-- Which texts begin with others, as far as the texts were gone through in order, and what is left of them.
use Rattle.gix_refspec_match.proofs.Common.{List, [], ◌∷◌, ◌≡◌, ◌≢◌, ◌⊎◌, ◌↔◌, ◌<◌, ◌≤◌, ◌+◌, ◌++◌, ℕ, Bool, true}
use Rattle.gix_refspec_match.proofs.Common.{false, Option, Some, None, Equal, Ordering, refl, sym, ◌∙◌, ap, subst}
use Rattle.gix_refspec_match.proofs.Common.{arith, inl, inr, length, map, drop, get_or, slice_get, suc, zero}
use Rattle.gix_refspec_match.proofs.Common.{append-nil, append_assoc, option_to_list, option_map, bytes_eq, false≢true}
use Rattle.gix_refspec_match.proofs.Common.{cases_lt, same_Some, nat_tests, some_element, nat_cmp_total, slice_get-map}
use Rattle.gix_refspec_match.proofs.Common.{slice_get-get_or, slice_get_within, get_or_default, length-map, get_or-map}
use Rattle.gix_refspec_match.proofs.Common.{get_or_from_slice_get, All-contains, IsTotalOrder, IsSorted, AllByRecursion}
use Rattle.gix_refspec_match.proofs.Common.{nat_cmp, ordering_then, is_lt, bytes_eq-Decides, on_total, bytes_order}
use Rattle.gix_refspec_match.proofs.Common.{same_texts, BeginsWith, IsMadeFrom, MakesOf, IsFlagged, ArePlaced, IsPlaced}
use Rattle.gix_refspec_match.proofs.Common.{placed_order, Placed, AreApart, all_weaker, IsUnflagged}
use Rattle.gix_refspec_match.proofs.lemmas.duplicates.OrderedLemmas.{not_fallen, rising_indexes}
use Rattle.gix_refspec_match.proofs.lemmas.lists.ListsLemmas.{cut_next, made_map}
use Rattle.gix_refspec_match.proofs.lemmas.lists.SomeLemmas.{Any, Any-all, Any-fact, Any-right, some_at}
use Rattle.gix_refspec_match.specs.Matching.Redundant.{AreNeeded, IsNeededAt, IsRedundant, NoneBeginsAnother}
use Rattle.gix_refspec_match.specs.Private.Duplicates.{BeginsWithNeeded, FlagsRedundant}
use Rattle.gix_refspec_match.specs.Private.Orders.{equal_texts}
use Rattle.bstr.specs.Owned.{bstring_bytes}
use Rattle.bstr.specs.declared.bstring.BString.{BString}
use Rattle.std.proofs.lemmas.Cmp.{tied_itself}
use Rattle.std.specs.Cmp.Lexicographic.{nat_list_cmp_total}
use Rattle.std.specs.List as lists

-- ---- texts that begin with others, and their order

pub begins_itself : (x : List ℕ) → BeginsWith x x
begins_itself x = record { after = []; here = sym (append-nil x) }

pub begins_through : (p q x : List ℕ) → BeginsWith p q → BeginsWith q x → BeginsWith p x
begins_through p q x one other = record {
  after = one.after ++ other.after;
  here = other.here ∙ ap (λ (y : List ℕ). y ++ other.after) one.here ∙ append_assoc p one.after other.after;
}

-- of two comparisons that are opposite, neither says Less if the first bytes are the same
ties : (p q : ℕ) (o w : Ordering) → is_lt (ordering_then (nat_cmp p q) o) ≡ false
    → is_lt (ordering_then (nat_cmp q p) w) ≡ false → (p ≡ q) × (is_lt o ≡ false) × (is_lt w ≡ false)
ties p q o w up down = grind (arith, nat_tests)

-- what is between a text and one that begins with it begins with it too
between : (w y rest : List ℕ) → is_lt (bytes_order y w) ≡ false → is_lt (bytes_order (w ++ rest) y) ≡ false
    → BeginsWith w y
between [] y rest low high = record { after = y; here = refl }
between (c ∷ w) [] rest low high = absurd (false≢true (sym low))
between (c ∷ w) (d ∷ y) rest low high =
    let (same, low_rest, high_rest) = ties d c _ _ low high in
    let others = between w y rest low_rest high_rest in
    record { after = others.after; here = λ i. same i ∷ others.here i }

-- a text comes before those that begin with it, and the first of equal ones before the others
prefix_first : (w rest : List ℕ) (i j : ℕ) → (w ≢ (w ++ rest)) ⊎ (i < j)
    → is_lt (ordering_then (bytes_order w (w ++ rest)) (nat_cmp i j)) ≡ true
prefix_first [] [] i j (inl other) = absurd (other refl)
prefix_first [] [] i j (inr less) = grind (arith, nat_tests)
prefix_first [] (y ∷ rest) i j ahead = refl
prefix_first (c ∷ w) rest i j ahead =
    rw (tied_itself nat_cmp_total c) (prefix_first w rest i j
    (elim ahead [ inl other ↦ inl (λ same. other (ap (λ (x : List ℕ). c ∷ x) same)) | inr less ↦ inr less ]))

first_before : (w x : List ℕ) (i j : ℕ) → BeginsWith w x → (w ≢ x) ⊎ (i < j)
    → is_lt (ordering_then (bytes_order w x) (nat_cmp i j)) ≡ true
first_before w x i j begins ahead =
    rw begins.here (prefix_first w begins.after i j (rw begins.here at ahead))

first_low : (o u : Ordering) → is_lt (ordering_then o u) ≡ false → is_lt o ≡ false
first_low o u low = grind (arith, low)

-- ---- the texts in order

abbrev text_of : Placed BString → List ℕ
text_of p = bstring_bytes p.element.now

abbrev order : BString → BString → Ordering
order x y = bytes_order (bstring_bytes x) (bstring_bytes y)

order_total : IsTotalOrder order
order_total = on_total bstring_bytes nat_list_cmp_total

module _ {xs : List BString} {ps : List (Placed BString)} (are : ArePlaced xs ps)
    (sorted : IsSorted (placed_order order) ps) where
  abbrev texts : List (List ℕ)
  texts = map bstring_bytes xs

  text_there : (p : Placed BString) → IsPlaced xs p → slice_get texts p.index ≡ Some (text_of p)
  text_there p is = slice_get-map bstring_bytes xs p.index
      ∙ ap (option_map bstring_bytes) (slice_get-get_or xs p.index p.element.now is.inside)
      ∙ ap (λ (x : BString). Some (bstring_bytes x)) (sym (is.is p.element.now))

  abbrev placed : ℕ → Placed BString → Placed BString
  placed i d = get_or ps i d

  -- the text at a position begins with that at an earlier one: so it is redundant
  pub later_redundant : (i j : ℕ) (d : Placed BString) → j < i → i < length ps
      → BeginsWith (text_of (placed j d)) (text_of (placed i d)) → IsRedundant texts (placed i d).index
  later_redundant i j d before below begins =
      let p = placed j d in
      let q = placed i d in
      let apart : p.index ≢ q.index = are.apart j i d before below in
      let le = not_fallen order_total are sorted j i d (omega arith) below in
      record {
        text = text_of q;
        here = text_there q (are.each i d below);
        index = p.index;
        other = text_of p;
        there = text_there p (are.each j d (omega arith));
        begins = begins;
        ahead = by (bytes_eq (text_of p) (text_of q)) refl apart le;
      }
    where
      by : (b : Bool) → bytes_eq (text_of (placed j d)) (text_of (placed i d)) ≡ b
          → (placed j d).index ≢ (placed i d).index
          → is_lt (placed_order order (placed i d) (placed j d)) ≡ false
          → (text_of (placed j d) ≢ text_of (placed i d)) ⊎ ((placed j d).index < (placed i d).index)
      by true same apart le =
          let equal = equal_texts (text_of (placed i d)) (text_of (placed j d))
          (sym ((bytes_eq-Decides (text_of (placed j d)) (text_of (placed i d))).0 same)) in
          let rise = rising_indexes order_total (placed j d) (placed i d) le equal in
          inr (omega (arith, rise, apart))
      by false other apart le =
          inl (λ is. false≢true (sym other ∙ (bytes_eq-Decides (text_of (placed j d)) (text_of (placed i d))).1 is))

  -- a redundant text begins with one at an earlier position
  pub redundant_later : (i : ℕ) (d : Placed BString) → i < length ps → IsRedundant texts (placed i d).index
      → (j : ℕ) × (j < i) × BeginsWith (text_of (placed j d)) (text_of (placed i d))
  redundant_later i d below redundant =
      let q = placed i d in
      let inside : redundant.index < length xs =
      omega (
        arith,
        slice_get_within texts redundant.index redundant.other redundant.there,
        length-map xs bstring_bytes,
      ) in
      let (p, (j, in_j, is_j), same) = are.every redundant.index inside in
      let here : placed j d ≡ p = get_or_default ps j d p in_j ∙ is_j in
      let there : slice_get texts (placed j d).index ≡ Some redundant.other =
      ap (λ (x : Placed BString). slice_get texts x.index) here ∙ ap (slice_get texts) same ∙ redundant.there in
      let other : redundant.other ≡ text_of (placed j d) =
      same_Some _ _ (sym there ∙ text_there (placed j d) (are.each j d in_j)) in
      let text : redundant.text ≡ text_of q =
      same_Some _ _ (sym redundant.here ∙ text_there q (are.each i d below)) in
      let begins : BeginsWith (text_of (placed j d)) (text_of q) = rw (other, text) at redundant.begins in
      let index_is : (placed j d).index ≡ redundant.index = ap (λ (x : Placed BString). x.index) here ∙ same in
      let ahead : (text_of (placed j d) ≢ text_of q) ⊎ ((placed j d).index < q.index) = elim redundant.ahead [
        | inl differ ↦ inl (λ is. differ (other ∙ is ∙ sym text))
        | inr less ↦ inr (omega (arith, less, index_is))
      ] in
      elim (cases_lt j i) [
        | inl before ↦ (j, before, begins)
        | inr behind ↦
            absurd (false≢true (sym (not_fallen order_total are sorted i j d behind in_j)
            ∙ first_before (text_of (placed j d)) (text_of q) _ _ begins ahead))
      ]

  -- nothing is before the first position
  pub first_needed : (d : Placed BString) → 0 < length ps → ¬ (IsRedundant texts (placed 0 d).index)
  first_needed d below redundant = let (j, before, begins) = redundant_later 0 d below redundant in
      absurd (omega (arith, before))

-- what holds of each text at its index holds of all
each_text : (P : List ℕ → Type 0) (texts : List (List ℕ)) → ((k : ℕ) (x : List ℕ) → slice_get texts k ≡ Some x → P x)
    → AllByRecursion P texts
each_text P [] each = tt
each_text P (x ∷ texts) each = (each 0 x refl, each_text P texts (λ k y is. each (suc k) y is))

-- ---- a pass over the texts in order

-- what is known of the positions before `end`, if the last needed text of them is at `upper`
pub record HaveUpper (xs : List BString) (ps : List (Placed BString)) (flags : List Bool) (end upper : ℕ)
    (d : Placed BString) : Type 0 where
  pub found : (i : ℕ) → i < end → i < length ps → IsRedundant (map bstring_bytes xs) (get_or ps i d).index
      → IsFlagged flags (get_or ps i d).index
  pub free : ¬ (IsRedundant (map bstring_bytes xs) (get_or ps upper d).index)
  pub run : (i : ℕ) → upper ≤ i → i < end → BeginsWith (text_of (get_or ps upper d)) (text_of (get_or ps i d))
  pub led : (i : ℕ) → i < end → i < length ps → BeginsWithNeeded (map bstring_bytes xs) (text_of (get_or ps i d))

-- and of the flags
pub record HavePassed (xs : List BString) (ps : List (Placed BString)) (flags : List Bool) (end upper : ℕ) :
    Type 0 where
  pub fits : (flags ≡ []) ⊎ (length flags ≡ length xs)
  pub below : upper < end
  pub only : (k : ℕ) → IsFlagged flags k → IsRedundant (map bstring_bytes xs) k
  pub passed : (d : Placed BString) → HaveUpper xs ps flags end upper d

module _ {xs : List BString} {ps : List (Placed BString)} (are : ArePlaced xs ps)
    (sorted : IsSorted (placed_order order) ps) where
  abbrev all : List (List ℕ)
  all = map bstring_bytes xs

  abbrev text : Placed BString → ℕ → List ℕ
  text d i = text_of (get_or ps i d)

  needed_at : (d : Placed BString) (i : ℕ) (x : List ℕ) → i < length ps → ¬ (IsRedundant all (get_or ps i d).index)
      → BeginsWith (text d i) x → BeginsWithNeeded all x
  needed_at d i x below needed begins = record {
    index = (get_or ps i d).index;
    other = text d i;
    there = text_there are sorted (get_or ps i d) (are.each i d below);
    needed = needed;
    begins = begins;
  }

  first_upper : (flags : List Bool) (d : Placed BString) → 0 < length ps → HaveUpper xs ps flags 1 0 d
  first_upper flags d below =
      let free = first_needed are sorted d below in
      let only_first : (i : ℕ) → i < 1 → 0 ≡ i = λ i less. omega arith in
      record {
        found = λ i less inside redundant. absurd (free
            (subst (λ (n : ℕ). IsRedundant all (get_or ps n d).index) (sym (only_first i less)) redundant));
        free = free;
        run = λ i up less. subst (λ (n : ℕ). BeginsWith (text d 0) (text d n)) (only_first i less)
            (begins_itself (text d 0));
        led = λ i less inside. needed_at d 0 (text d i) below free
            (subst (λ (n : ℕ). BeginsWith (text d 0) (text d n)) (only_first i less) (begins_itself (text d 0)));
      }

  pub passed_one : (flags : List Bool) → flags ≡ [] → 0 < length xs → HavePassed xs ps flags 1 0
  passed_one flags none some =
      let (p, (i, in_i, is_i), same) = are.every 0 some in
      record {
        fits = inl none;
        below = omega arith;
        only = λ k flagged. absurd (false≢true (rw none at flagged));
        passed = λ d. first_upper flags d (omega (arith, in_i));
      }

  module _ {flags : List Bool} {end upper : ℕ} (so_far : HavePassed xs ps flags end upper) (below : end < length ps)
    where
      -- the next text begins with the last needed one: it is flagged
      still_upper : (new : List Bool) (k : ℕ) (d : Placed BString) → (get_or ps end d).index ≡ k
          → ((j : ℕ) → IsFlagged new j ↔ (IsFlagged flags j ⊎ (k ≡ j))) → BeginsWith (text d upper) (text d end)
          → HaveUpper xs ps new (end + 1) upper d
      still_upper new k d here raised begins =
          let old = so_far.passed d in
          let last_is : (i : ℕ) → i < end + 1 → end ≤ i → end ≡ i = λ i less more. omega arith in
          record {
            found = λ i less inside is. (raised (get_or ps i d).index).1 (elim (cases_lt i end) [
              | inl before ↦ inl (old.found i before inside is)
              | inr last ↦ inr (sym here ∙ ap (λ (n : ℕ). (get_or ps n d).index) (last_is i less last))
            ]);
            free = old.free;
            run = λ i up less. elim (cases_lt i end) [
              | inl before ↦ old.run i up before
              | inr last ↦ subst (λ (n : ℕ). BeginsWith (text d upper) (text d n)) (last_is i less last) begins
            ];
            led = λ i less inside. elim (cases_lt i end) [
              | inl before ↦ old.led i before inside
              | inr last ↦
                  needed_at d upper (text d i) (omega (arith, so_far.below, below)) old.free
                  (subst (λ (n : ℕ). BeginsWith (text d upper) (text d n)) (last_is i less last) begins)
            ];
          }

      pub passed_redundant : (new : List Bool) (k : ℕ) → length new ≡ length xs
          → ((j : ℕ) → IsFlagged new j ↔ (IsFlagged flags j ⊎ (k ≡ j)))
          → ((d : Placed BString) → ((get_or ps end d).index ≡ k) × BeginsWith (text d upper) (text d end))
          → (d : Placed BString) → HavePassed xs ps new (end + 1) upper
      passed_redundant new k long raised at_end d =
          let redundant = later_redundant are sorted end upper d so_far.below below (at_end d).1 in
          record {
            fits = inr long;
            below = omega (arith, so_far.below);
            only = λ j flagged. elim ((raised j).0 flagged) [
              | inl before ↦ so_far.only j before
              | inr is ↦ subst (IsRedundant all) ((at_end d).0 ∙ is) redundant
            ];
            passed = λ e. still_upper new k e (at_end e).0 raised (at_end e).1;
          }

      -- the next text doesn't begin with the last needed one: so it is needed
      next_needed : (d : Placed BString) → ¬ (BeginsWith (text d upper) (text d end))
          → ¬ (IsRedundant all (get_or ps end d).index)
      next_needed d other redundant =
          let (j, before, begins) = redundant_later are sorted end d below redundant in
          let inside : upper < length ps = omega (arith, so_far.below, below) in
          elim (cases_lt j upper) [
            | inl above ↦
                let low : is_lt (bytes_order (text d upper) (text d j)) ≡ false = first_low _ _
                (not_fallen order_total are sorted j upper d (omega (arith, above)) inside) in
                let high : is_lt (bytes_order (text d end) (text d upper)) ≡ false = first_low _ _
                (not_fallen order_total are sorted upper end d (omega (arith, so_far.below)) below) in
                (so_far.passed d).free (later_redundant are sorted upper j d above inside
                (between (text d j) (text d upper) begins.after low (rw begins.here at high)))
            | inr later ↦
                other (begins_through (text d upper) (text d j) (text d end) ((so_far.passed d).run j later before)
                begins)
          ]

      pub passed_needed : ((d : Placed BString) → ¬ (BeginsWith (text d upper) (text d end)))
          → HavePassed xs ps flags (end + 1) end
      passed_needed other = record {
        fits = so_far.fits;
        below = omega arith;
        only = so_far.only;
        passed = next_upper;
      }
        where
          next_upper : (d : Placed BString) → HaveUpper xs ps flags (end + 1) end d
          next_upper d =
              let free = next_needed d (other d) in
              let old = so_far.passed d in
              let last_is : (i : ℕ) → i < end + 1 → end ≤ i → end ≡ i = λ i less more. omega arith in
              record {
                found = λ i less inside is. elim (cases_lt i end) [
                  | inl before ↦ old.found i before inside is
                  | inr last ↦ absurd (free (subst (λ (n : ℕ). IsRedundant all (get_or ps n d).index)
                      (sym (last_is i less last)) is))
                ];
                free = free;
                run = λ i up less. subst (λ (n : ℕ). BeginsWith (text d end) (text d n)) (last_is i less up)
                    (begins_itself (text d end));
                led = λ i less inside. elim (cases_lt i end) [
                  | inl before ↦ old.led i before inside
                  | inr last ↦ needed_at d end (text d i) below free
                      (subst (λ (n : ℕ). BeginsWith (text d end) (text d n)) (last_is i less last)
                      (begins_itself (text d end)))
                ];
              }

  module _ {flags : List Bool} {end upper : ℕ} (so_far : HavePassed xs ps flags end upper) (over : length ps ≤ end)
    where
      pub all_flagged : FlagsRedundant all flags
      all_flagged k = (
        so_far.only k,
        λ redundant.
            let inside : k < length xs =
            omega (arith, slice_get_within all k redundant.text redundant.here, length-map xs bstring_bytes) in
            let (p, (i, in_i, is_i), same) = are.every k inside in
            let here : (get_or ps i p).index ≡ k = ap (λ (x : Placed BString). x.index) is_i ∙ same in
            rw here at ((so_far.passed p).found i (omega (arith, in_i, over)) in_i (rw here redundant)),
      )

      all_led : (k : ℕ) (x : List ℕ) → slice_get all k ≡ Some x → BeginsWithNeeded all x
      all_led k x is =
          let inside : k < length xs = omega (arith, slice_get_within all k x is, length-map xs bstring_bytes) in
          let (p, (i, in_i, is_i), same) = are.every k inside in
          let here : (get_or ps i p).index ≡ k = ap (λ (y : Placed BString). y.index) is_i ∙ same in
          let text_is : text p i ≡ x =
          same_Some _ _ (sym (text_there are sorted (get_or ps i p) (are.each i p in_i))
          ∙ ap (slice_get all) here ∙ is) in
          subst (BeginsWithNeeded all) text_is ((so_far.passed p).led i (omega (arith, in_i, over)) in_i)

      pub all_begin : AllByRecursion (BeginsWithNeeded all) all
      all_begin = each_text (BeginsWithNeeded all) all all_led

-- ---- fewer than two texts

pub few_needed : (texts : List (List ℕ)) (k : ℕ) → length texts < 2 → ¬ (IsRedundant texts k)
few_needed texts k few redundant =
    let here = slice_get_within texts k redundant.text redundant.here in
    let there = slice_get_within texts redundant.index redundant.other redundant.there in
    let same : k ≡ redundant.index = omega arith in
    elim redundant.ahead [
      | inl other ↦ other (same_Some _ _ (sym redundant.there ∙ ap (slice_get texts) (sym same) ∙ redundant.here))
      | inr less ↦ absurd (omega arith)
    ]

pub few_flagged : (texts : List (List ℕ)) (flags : List Bool) → length texts < 2 → flags ≡ []
    → FlagsRedundant texts flags
few_flagged texts flags few none k =
    ((λ flagged. absurd (false≢true (rw none at flagged))), λ redundant. absurd (few_needed texts k few redundant))

few_led : (texts : List (List ℕ)) → length texts < 2 → (k : ℕ) (x : List ℕ) → slice_get texts k ≡ Some x
    → BeginsWithNeeded texts x
few_led texts few k x is = record {
  index = k;
  other = x;
  there = is;
  needed = few_needed texts k few;
  begins = begins_itself x;
}

pub few_begin : (texts : List (List ℕ)) → length texts < 2 → AllByRecursion (BeginsWithNeeded texts) texts
few_begin texts few = each_text _ texts (few_led texts few)

-- ---- dropping the redundant ones

-- of a text at an index something is made, so it is in the list that is made
made_at : (texts : List (List ℕ)) (k i : ℕ) (xs ys : List (List ℕ)) (x : List ℕ)
    → IsMadeFrom (IsNeededAt texts) k xs ys → slice_get xs i ≡ Some x → ¬ (IsRedundant texts (k + i))
    → (P : List ℕ → Type 0) → P x → lists.Any P ys
made_at texts k i xs ys x made is needed P holds = some_at P ys (there k i xs ys made is needed)
  where
    there : (k i : ℕ) (xs ys : List (List ℕ)) → IsMadeFrom (IsNeededAt texts) k xs ys → slice_get xs i ≡ Some x
        → ¬ (IsRedundant texts (k + i)) → Any P ys
    there k i [] ys made is needed = absurd (cc)
    there k zero (z ∷ xs) ys (None, rest, none, more, all) is needed =
        absurd (none z (refl, subst (λ (n : ℕ). ¬ (IsRedundant texts n)) (omega arith) needed))
    there k zero (z ∷ xs) ys (Some y, rest, makes, more, all) is needed =
        rw all (inl (subst P (sym (makes.0 ∙ same_Some _ _ is)) holds))
    there k (suc i) (z ∷ xs) ys (made, rest, makes, more, all) is needed =
        rw all (Any-right P (option_to_list made) rest (there (k + 1) i xs rest more is
        (subst (λ (n : ℕ). ¬ (IsRedundant texts n)) (omega arith) needed)))

pub needed_left : (xs ys : List BString) (flags : List Bool) → FlagsRedundant (map bstring_bytes xs) flags
    → AllByRecursion (BeginsWithNeeded (map bstring_bytes xs)) (map bstring_bytes xs)
    → IsMadeFrom (IsUnflagged flags) 0 xs ys → AreNeeded (map bstring_bytes xs) (map bstring_bytes ys)
needed_left xs ys flags told begin made = record {
  are = are;
  begin = all_weaker (BeginsWithNeeded (map bstring_bytes xs)) _ (λ x some. made_at (map bstring_bytes xs) 0 some.index
      (map bstring_bytes xs) (map bstring_bytes ys) some.other are some.there
      (subst (λ (n : ℕ). ¬ (IsRedundant (map bstring_bytes xs) n)) (omega arith) some.needed)
      (λ p. BeginsWith p x) some.begins) (map bstring_bytes xs) begin;
}
  where
    one : (i : ℕ) (x : BString) (made : Option BString) → MakesOf (IsUnflagged flags) i x made
        → MakesOf (IsNeededAt (map bstring_bytes xs)) i (bstring_bytes x) (option_map bstring_bytes made)
    one i x None none = λ y stays. none x (refl, λ flagged. stays.1 ((told i).0 flagged))
    one i x (Some y) (same, free) = (ap bstring_bytes same, λ redundant. free ((told i).1 redundant))

    are : IsMadeFrom (IsNeededAt (map bstring_bytes xs)) 0 (map bstring_bytes xs) (map bstring_bytes ys)
    are = made_map bstring_bytes bstring_bytes (IsUnflagged flags) (IsNeededAt (map bstring_bytes xs)) 0 xs ys
        (λ i d below made makes. one (0 + i) (get_or xs i d) made makes) made

-- ---- what is left

-- a needed text of the list at an index from k on
record IsFrom (texts : List (List ℕ)) (k : ℕ) (x : List ℕ) : Type 0 where
  index : ℕ
  from : k ≤ index
  there : slice_get texts index ≡ Some x
  needed : ¬ (IsRedundant texts index)

both_apart : (texts : List (List ℕ)) (k : ℕ) (p q : List ℕ) → slice_get texts k ≡ Some p → ¬ (IsRedundant texts k)
    → IsFrom texts (k + 1) q → ¬ (BeginsWith p q) × ¬ (BeginsWith q p)
both_apart texts k p q is needed from = (later, by (bytes_eq q p) refl)
  where
    later : ¬ (BeginsWith p q)
    later begins = from.needed (record {
      text = q;
      here = from.there;
      index = k;
      other = p;
      there = is;
      begins = begins;
      ahead = inr (omega (arith, from.from));
    })

    by : (b : Bool) → bytes_eq q p ≡ b → ¬ (BeginsWith q p)
    by true same begins =
        later (subst (λ (x : List ℕ). BeginsWith x q) ((bytes_eq-Decides q p).0 same) (begins_itself q))
    by false other begins = needed (record {
      text = p;
      here = is;
      index = from.index;
      other = q;
      there = from.there;
      begins = begins;
      ahead = inl (λ same. false≢true (sym other ∙ (bytes_eq-Decides q p).1 same));
    })

none_from : (texts : List (List ℕ)) (k : ℕ) (xs ys : List (List ℕ)) → drop k texts ≡ xs
    → IsMadeFrom (IsNeededAt texts) k xs ys → AllByRecursion (IsFrom texts k) ys × NoneBeginsAnother ys
none_from texts k [] ys left none = rw none (tt, tt)
none_from texts k (x ∷ xs) ys left (made, rest, makes, more, all) =
    let (here, next) = cut_next texts k x xs left in
    rw all (joined made makes here (none_from texts (k + 1) xs rest next more))
  where
    weaker : (y : List ℕ) → IsFrom texts (k + 1) y → IsFrom texts k y
    weaker y from = record {
      index = from.index;
      from = omega (arith, from.from);
      there = from.there;
      needed =
          from.needed;
    }

    joined : (made : Option (List ℕ)) → MakesOf (IsNeededAt texts) k x made → slice_get texts k ≡ Some x
        → AllByRecursion (IsFrom texts (k + 1)) rest × NoneBeginsAnother rest
        → AllByRecursion (IsFrom texts k) (option_to_list made ++ rest)
        × NoneBeginsAnother (option_to_list made ++ rest)
    joined None none here (from, apart) = (all_weaker _ _ weaker rest from, apart)
    joined (Some y) (same, needed) here (from, apart) =
        let is : slice_get texts k ≡ Some y = here ∙ ap Some (sym same) in (
          (
            record { index = k; from = omega arith; there = is; needed = needed },
            all_weaker _ _ weaker rest from,
          ),
          (all_weaker _ _ (λ q other. both_apart texts k y q is needed other) rest from, apart),
        )

-- none of the needed texts begins with another one
pub needed_apart : (texts needed : List (List ℕ)) → AreNeeded texts needed → NoneBeginsAnother needed
needed_apart texts needed are = (none_from texts 0 texts needed refl are.are).1

-- what begins with one of the texts begins with one of the needed ones
pub needed_begin : (texts needed : List (List ℕ)) (x : List ℕ) → AreNeeded texts needed
    → Any (λ p. BeginsWith p x) texts → lists.Any (λ p. BeginsWith p x) needed
needed_begin texts needed x are any = Any-fact _ texts (Any-all _ (λ p. BeginsWith p x)
    (λ p. lists.Any (λ q. BeginsWith q x) needed) (λ p some begins.
    let (i, q, below, is, other) = some in (i, q, below, is, begins_through q p x other begins)) texts are.begin any)

-- none are needed only if there are none
pub none_needed : (texts : List (List ℕ)) → AreNeeded texts [] → texts ≡ []
none_needed [] are = refl
none_needed (x ∷ texts) are = let (i, p, below, is, begins) = are.begin.0 in absurd (omega (arith, below))
