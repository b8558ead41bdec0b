-- Which values of a list another one has.
use Rattle.gix_refspec_diff.proofs.Common.{Contains, List, Negative, None, Reading, RefSpecRef, Some, [], ap, arith}
use Rattle.gix_refspec_diff.proofs.Common.{get_or, inl, inr, length, map, map-append, slice_get_within, Option, ◌↔◌}
use Rattle.gix_refspec_diff.proofs.Common.{reading_of, refl, same_Some, slice_get, subst, sym, take, zero, ℕ, ◌++◌, ◌+◌}
use Rattle.gix_refspec_diff.proofs.Common.{◌<◌, ◌≤◌, ◌∙◌, ◌∷◌, ◌≡◌, ◌⊎◌}
use Rattle.gix_refspec_lint.proofs.Common.{Bool, Contains-append_left, Contains-append_right, Contains-push_cases}
use Rattle.gix_refspec_lint.proofs.Common.{IsPositive, cases_lt, length-append, length-map, ◌-◌, some_element, suc}
use Rattle.gix_refspec_lint.proofs.Common.{IsFree, SidesLack, all_left, all_right, take_more, true}
use Rattle.gix_refspec_lint.proofs.lemmas.IndexLemmas.{reading_at}
use Rattle.gix_refspec_match.specs.Private.Duplicates.{FlagsDuplicates}
use Rattle.gix_refspec_match.specs.Private.EqualSpecs.{excludes, side_order, sides_order}
use Rattle.gix_refspec_match.specs.Private.Kept.{IsFlagged}
use Rattle.gix_refspec_match.specs.Private.Orders.{both_equal, equal_texts, same_options}
use Rattle.gix_refspec_text.specs.Specs.Reading.{Forced, Mode, Normal}
use Rattle.std.specs.Ordering.{bool_cmp, ordering_then}
use Rattle.std.specs.declared.cmp.Ordering.{Ordering}
use Rattle.std.specs.declared.cmp.Ordering.TheVariants.{Equal}
use Rattle.gix_refspec_diff.specs.Private.Searches.{AreKnown, AreNewExclusions, HasExclusion, HasSides, HasSidesBefore}
use Rattle.gix_refspec_diff.specs.Private.Searches.{HaveSides}

-- ---- two lists behind one another

behind : (xs ys : List Reading) (k : ℕ) → slice_get (xs ++ ys) (length xs + k) ≡ slice_get ys k
behind [] ys k = ap (slice_get ys) (omega arith)
behind (x ∷ xs) ys k =
    let next : suc (length xs + k) ≡ suc (length xs) + k = omega arith in
    subst (λ i. slice_get (x ∷ (xs ++ ys)) i ≡ slice_get ys k) next (behind xs ys k)

in_front : (xs ys : List Reading) (k : ℕ) → k < length xs → slice_get (xs ++ ys) k ≡ slice_get xs k
in_front [] ys k below = absurd (omega (arith, below))
in_front (x ∷ xs) ys zero below = refl
in_front (x ∷ xs) ys (suc k) below = in_front xs ys k (omega (arith, below))

-- ---- equal sides

same_kind : (m n : Mode) → bool_cmp (excludes m) (excludes n) ≡ Equal
    → (IsPositive n → IsPositive m) × (n ≡ Negative → m ≡ Negative)
same_kind Normal Normal is = (λ p. p, λ same. cc same)
same_kind Normal Forced is = (λ p. p, λ same. cc same)
same_kind Normal Negative is = absurd (cc is)
same_kind Forced Normal is = (λ p. p, λ same. cc same)
same_kind Forced Forced is = (λ p. p, λ same. cc same)
same_kind Forced Negative is = absurd (cc is)
same_kind Negative Normal is = absurd (cc is)
same_kind Negative Forced is = absurd (cc is)
same_kind Negative Negative is = (λ p. p, λ same. same)

have_sides : (r s : Reading) → sides_order r s ≡ Equal → HaveSides r s
have_sides r s is =
    let both = both_equal _ _ is in
    let sides = both_equal _ _ both.0 in
    let kind = same_kind r.mode s.mode both.1 in
    record {
      source = same_options r.source s.source sides.0;
      destination = same_options r.destination s.destination sides.1;
      positive = kind.0;
      negative = kind.1;
    }

same_mode : (m n : Mode) → (IsPositive n → IsPositive m) → (n ≡ Negative → m ≡ Negative)
    → bool_cmp (excludes m) (excludes n) ≡ Equal
same_mode Normal Normal positive negative = refl
same_mode Normal Forced positive negative = refl
same_mode Normal Negative positive negative = absurd (cc (negative refl))
same_mode Forced Normal positive negative = refl
same_mode Forced Forced positive negative = refl
same_mode Forced Negative positive negative = absurd (cc (negative refl))
same_mode Negative Normal positive negative = absurd (positive tt)
same_mode Negative Forced positive negative = absurd (positive tt)
same_mode Negative Negative positive negative = refl

both_same : (a b : Ordering) → a ≡ Equal → b ≡ Equal → ordering_then a b ≡ Equal
both_same a b one other = rw one other

one_option : (x y : Option (List ℕ)) → x ≡ y → side_order x y ≡ Equal
one_option None None same = refl
one_option None (Some b) same = absurd (cc same)
one_option (Some a) None same = absurd (cc same)
one_option (Some a) (Some b) same = equal_texts a b (same_Some _ _ same)

same_order : (r s : Reading) → HaveSides r s → sides_order r s ≡ Equal
same_order r s same =
    both_same _ _ (both_same _ _ (one_option r.source s.source same.source)
    (one_option r.destination s.destination same.destination))
    (same_mode r.mode s.mode same.positive same.negative)

-- ---- flags

pub flags_pushed : (flags known : List Bool) (from : ℕ) (b : Bool)
    → ((k : ℕ) → k < length known → IsFlagged known k ↔ IsFlagged flags (from + k))
    → (b ≡ true ↔ IsFlagged flags (from + length known)) → (k : ℕ) → k < length (known ++ b ∷ [])
    → IsFlagged (known ++ b ∷ []) k ↔ IsFlagged flags (from + k)
flags_pushed flags [] from b old new zero below = new
flags_pushed flags [] from b old new (suc k) below = absurd (omega (arith, below))
flags_pushed flags (x ∷ known) from b old new zero below = old zero (omega arith)
flags_pushed flags (x ∷ known) from b old new (suc k) below =
    let next : (j : ℕ) → (from + 1) + j ≡ from + suc j = λ j. omega arith in
    let told = flags_pushed flags known (from + 1) b
    (λ j inside. let o = old (suc j) (omega (arith, inside)) in (
      (λ f. subst (IsFlagged flags) (sym (next j)) (o.0 f)),
      (λ f. o.1 (subst (IsFlagged flags) (next j) f)),
    )) (
      (λ t. subst (IsFlagged flags) (sym (next (length known))) (new.0 t)),
      (λ f. new.1 (subst (IsFlagged flags) (next (length known)) f)),
    ) k (omega (arith, below)) in (
      (λ f. subst (IsFlagged flags) (next k) (told.0 f)),
      (λ f. told.1 (subst (IsFlagged flags) (sym (next k)) f)),
    )

-- flags of the second of two lists, as far as they are copied from those of both
abbrev pub AreCopied : List Bool → ℕ → List Bool → Type 0
AreCopied flags from known = (k : ℕ) → k < length known → IsFlagged known k ↔ IsFlagged flags (from + k)

pub flags_begin : (flags known : List Bool) (from : ℕ) → known ≡ [] → (from + length known ≡ from)
    × AreCopied flags from known
flags_begin flags known from none = (
  omega (arith, ap length none),
  (λ k below. absurd (omega (arith, ap length none, below))),
)

pub flags_next : (flags known new : List Bool) (from index : ℕ) (b : Bool) → new ≡ known ++ b ∷ []
    → (b ≡ true ↔ IsFlagged flags index) → (from + length known ≡ index) × AreCopied flags from known
    → (from + length new ≡ index + 1) × AreCopied flags from new
flags_next flags known new from index b more told (size, copied) = (
  omega (arith, size, ap length more, length-append known (b ∷ [])),
  rw more (flags_pushed flags known from b copied (subst (λ i. b ≡ true ↔ IsFlagged flags i) (sym size) told)),
)

-- the second of two lists behind one another
module _ (both : List RefSpecRef) (ones others : List Reading) (all : map reading_of both ≡ others ++ ones)
    (x : RefSpecRef)
  where
    at_both : (i : ℕ) → i < length both → slice_get (others ++ ones) i ≡ Some (reading_of (get_or both i x))
    at_both i below = ap (λ l. slice_get l i) (sym all) ∙ reading_at both i x below

    own : (k : ℕ) (c : Reading) → length others + k < length both → slice_get ones k ≡ Some c
        → reading_of (get_or both (length others + k) x) ≡ c
    own k c below at = same_Some _ _ (sym (at_both (length others + k) below) ∙ behind others ones k ∙ at)

    -- one that equals an earlier one of both has the sides of one of the first, or of an earlier one of the second
    from_equal : (k j : ℕ) (c : Reading) → length others + k < length both → slice_get ones k ≡ Some c
        → j < length others + k
        → sides_order (reading_of (get_or both j x)) (reading_of (get_or both (length others + k) x)) ≡ Equal
        → HasSides others c ⊎ HasSidesBefore ones k c
    from_equal k j c below at before equal =
        let there = at_both j (omega (arith, before, below)) in
        let same = subst (HaveSides (reading_of (get_or both j x))) (own k c below at) (have_sides _ _ equal) in
        elim (cases_lt j (length others)) [
          | inl inside ↦ inl (j, _, sym (in_front others ones j inside) ∙ there, same)
          | inr past ↦
              let m = j - length others in
              let is_m : length others + m ≡ j = omega (arith, past) in
              inr (
                m,
                _,
                omega (arith, past, before),
                sym (behind others ones m) ∙ ap (slice_get (others ++ ones)) is_m ∙ there,
                same,
              )
        ]

    -- and where there is one with its sides, it equals that
    to_equal : (k i : ℕ) (b c : Reading) → length others + k < length both → slice_get ones k ≡ Some c
        → i < length both → slice_get (others ++ ones) i ≡ Some b → HaveSides b c
        → sides_order (reading_of (get_or both i x)) (reading_of (get_or both (length others + k) x)) ≡ Equal
    to_equal k i b c below at inside there same =
        let here : reading_of (get_or both i x) ≡ b = same_Some _ _ (sym (at_both i inside) ∙ there) in
        let one = subst (λ s. sides_order b s ≡ Equal) (sym (own k c below at)) (same_order b c same) in
        subst (λ r. sides_order r (reading_of (get_or both (length others + k) x)) ≡ Equal) (sym here) one

-- flags of the second list are right if they are those of both lists
pub known_by : (both ones others : List RefSpecRef) (flags known : List Bool) (index : ℕ)
    → map reading_of both ≡ map reading_of others ++ map reading_of ones
    → FlagsDuplicates (λ (x : RefSpecRef) (y : RefSpecRef). sides_order (reading_of x) (reading_of y)) both flags
    → length both ≤ index → (length others + length known ≡ index) × AreCopied flags (length others) known
    → AreKnown (map reading_of ones) (map reading_of others) known
known_by both list front flags known index all are end (copied_size, copied) k c at =
    let ones = map reading_of list in
    let others = map reading_of front in
    let inside : k < length ones = slice_get_within ones k c at in
    let same_front : length others ≡ length front = length-map front reading_of in
    let i = length others + k in
    let size : length both ≡ length others + length ones =
    sym (length-map both reading_of) ∙ ap length all ∙ length-append others ones in
    let below : i < length both = omega (arith, inside, size) in
    let x = some_element both i below in
    let here : k < length known = omega (arith, inside, size, same_front, copied_size, end) in
    let told = subst (λ n. IsFlagged known k ↔ IsFlagged flags (n + k)) (sym same_front) (copied k here) in (
      (λ is.
          let (within, (j, before, equal)) = (are i).0 (told.0 is) in
          from_equal both ones others all x k j c below at before (equal x)),
      (λ has. told.1 ((are i).1 (elim has [
        | inl (j, b, there, same) ↦
            let in_others = slice_get_within others j b there in (
              below,
              (
                j,
                omega (arith, in_others),
                λ d. to_equal both ones others all d k j b c below at (omega (arith, in_others, size))
                    (in_front others ones j in_others ∙ there) same,
              ),
            )
        | inr (m, b, before, there, same) ↦
            let in_ones = slice_get_within ones m b there in (
              below,
              (
                length others + m,
                omega (arith, before),
                λ d. to_equal both ones others all d k (length others + m) b c below at (omega (arith, in_ones, size))
                    (behind others ones m ∙ there) same,
              ),
            )
      ]))),
    )

-- ---- negative values

has_more : (l : List Reading) (x r : Reading) → HasExclusion l r → HasExclusion (l ++ x ∷ []) r
has_more l x r (q, there, negative, same) = (q, Contains-append_left l (x ∷ []) q there, negative, same)

module _ (ones : List Reading) (others : List RefSpecRef) (i : ℕ) (x : RefSpecRef) (old : List RefSpecRef)
    (below : i < length others) (is : x ≡ get_or others i x)
    (so_far : AreNewExclusions ones (map reading_of (take i others)) (map reading_of old)) where
  next : map reading_of (take (i + 1) others) ≡ map reading_of (take i others) ++ reading_of x ∷ []
  next = ap (map reading_of) (take_more others i x below) ∙ map-append reading_of (take i others) _
      ∙ ap (λ y. map reading_of (take i others) ++ reading_of y ∷ []) (sym is)

  pub exclusion_pushed : (new : List RefSpecRef) → new ≡ old ++ x ∷ [] → (reading_of x).mode ≡ Negative
      → AreNewExclusions ones (map reading_of (take (i + 1) others)) (map reading_of new)
  exclusion_pushed new more negative = rw (next, more, map-append reading_of old (x ∷ [])) (λ r there excludes.
      elim (Contains-push_cases (map reading_of (take i others)) (reading_of x) r there) [
        | inl earlier ↦ elim (so_far r earlier excludes)
            [ inl has ↦ inl (has_more (map reading_of old) (reading_of x) r has) | inr has ↦ inr has ]
        | inr same ↦ inl (
          reading_of x,
          Contains-append_right (map reading_of old) (reading_of x ∷ []) (reading_of x) (zero, omega arith, refl),
          negative,
          ap (λ (q : Reading). q.source) same,
        )
      ])

  taken_at : (j : ℕ) (b : Reading) → j < i → slice_get (map reading_of others) j ≡ Some b
      → Contains (map reading_of (take i others)) b
  taken_at j b before at = within others i j b before at
    where
      within : (l : List RefSpecRef) (n j : ℕ) (b : Reading) → j < n → slice_get (map reading_of l) j ≡ Some b
          → Contains (map reading_of (take n l)) b
      within [] n j b before at = absurd (cc at)
      within (y ∷ l) zero j b before at = absurd (omega (arith, before))
      within (y ∷ l) (suc n) zero b before at = (zero, omega arith, same_Some _ _ at)
      within (y ∷ l) (suc n) (suc j) b before at =
          let (m, inside, is) = within l n j b (omega (arith, before)) at in
          (suc m, omega (arith, inside), is)

  pub exclusion_skipped : (known : List Bool) → AreKnown (map reading_of others) ones known
      → IsPositive (reading_of x).mode ⊎ IsFlagged known i
      → AreNewExclusions ones (map reading_of (take (i + 1) others)) (map reading_of old)
  exclusion_skipped known are why = rw next (λ r there excludes.
      elim (Contains-push_cases (map reading_of (take i others)) (reading_of x) r there) [
        | inl earlier ↦ so_far r earlier excludes
        | inr same ↦ elim why [
          | inl positive ↦ absurd
              (subst IsPositive (ap (λ (q : Reading). q.mode) same ∙ excludes) positive)
          | inr flagged ↦
              let at = reading_at others i x below ∙ ap (λ y. Some (reading_of y)) (sym is) ∙ ap Some same in
              elim ((are i r at).0 flagged) [
                | inl (j, b, here, sides) ↦ inr
                    (b, has_at ones j b here, sides.negative excludes, sides.source)
                | inr (j, b, before, here, sides) ↦
                    let earlier = so_far b (taken_at j b before here) (sides.negative excludes) in
                    elim earlier [
                      | inl (q, one, negative, source) ↦ inl (q, one, negative, source ∙ sides.source)
                      | inr (q, one, negative, source) ↦ inr (q, one, negative, source ∙ sides.source)
                    ]
              ]
        ]
      ])
    where
      has_at : (l : List Reading) (j : ℕ) (b : Reading) → slice_get l j ≡ Some b → Contains l b
      has_at [] j b at = absurd (cc at)
      has_at (y ∷ l) zero b at = (zero, omega arith, same_Some _ _ at)
      has_at (y ∷ l) (suc j) b at =
          let (m, inside, same) = has_at l j b at in (suc m, omega (arith, inside), same)

-- ---- a byte that is free in both lists

pub free_left : (g h : List Reading) (z : ℕ) → IsFree (g ++ h) z → IsFree g z
free_left g h z free =
    record { byte = free.byte; usable = free.usable; lacks = all_left (SidesLack z) g h free.lacks }

pub free_right : (g h : List Reading) (z : ℕ) → IsFree (g ++ h) z → IsFree h z
free_right g h z free =
    record { byte = free.byte; usable = free.usable; lacks = all_right (SidesLack z) g h free.lacks }
