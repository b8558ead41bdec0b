-- Lists that are joined from lists, and lists of which nothing is made.
use Rattle.std.proofs.Common.{List, [], ◌∷◌, None, Some, refl, ◌≡◌, ℕ, ◌++◌, Option, sym, ◌∙◌, arith, subst, ap}
use Rattle.std.proofs.Common.{append-nil, ◌<◌, length, map, take, drop, ◌+◌, get_or, append_assoc, zero, suc}
use Rattle.std.proofs.Common.{option_to_list, add-zero, length-append, take-append-drop, drop-cons}
use Rattle.std.proofs.Math.Seq.{get_or-append_seam}
use Rattle.std.proofs.lemmas.List.{map_more, length-map, length-take-le, map-append, nil_from_length}
use Rattle.gix_refspec_match.specs.Matching.Lists.{MakesOf, IsMadeFrom, IsJoinedFrom}

pub map_long : {A B : Type 0} (f : A → B) (xs : List A) (i : ℕ) → i < length xs → length (map f (take i xs)) ≡ i
map_long f xs i below = length-map (take i xs) f ∙ length-take-le i xs (omega arith)

pub map_split : {A B : Type 0} (f : A → B) (xs : List A) (i : ℕ) (d : A) → i < length xs
    → map f xs ≡ map f (take i xs) ++ (f (get_or xs i d) ∷ map f (drop (suc i) xs))
map_split f xs i d below = ap (map f) (sym (take-append-drop i xs)) ∙ rw (drop-cons xs i d below, map-append) refl

-- one more element after the others, which makes one more, or nothing
made_after : {X Y : Type 0} (R : ℕ → X → Y → Type 0) (k i : ℕ) (xs : List X) (x : X) (ys : List Y) (made : Option Y)
    → k + length xs ≡ i
    → IsMadeFrom R k xs ys → MakesOf R i x made → IsMadeFrom R k (xs ++ x ∷ []) (ys ++ option_to_list made)
made_after R k i [] x ys made at none makes = let here : i ≡ k =
    omega (arith, at) in (made, [], rw here at makes, refl, rw none (sym (append-nil (option_to_list made))))
made_after R k i (z ∷ zs) x ys made at (first, rest, here, more, same) makes = (
  first,
  rest ++ option_to_list made,
  here,
  made_after R (k + 1) i zs x rest made (omega (arith, at)) more makes,
  rw (same, append_assoc),
)

pub made_next : {X Y : Type 0} (R : ℕ → X → Y → Type 0) (i : ℕ) (xs : List X) (x : X) (ys : List Y) (made : Option Y)
    → length xs ≡ i → IsMadeFrom R 0 xs ys → MakesOf R i x made
    → IsMadeFrom R 0 (xs ++ x ∷ []) (ys ++ option_to_list made)
made_next R i xs x ys made long so_far makes = made_after R 0 i xs x ys made (omega arith) so_far makes

-- so it is with one more of some elements that are mapped
pub made_more : {A X Y : Type 0} (R : ℕ → X → Y → Type 0) (f : A → X) (xs : List A) (i : ℕ) (d : A) (ys zs : List Y)
    (made : Option Y) → i < length xs → IsMadeFrom R 0 (map f (take i xs)) ys → MakesOf R i (f (get_or xs i d)) made
    → zs ≡ ys ++ option_to_list made → IsMadeFrom R 0 (map f (take (i + 1) xs)) zs
made_more R f xs i d ys zs made below so_far makes more = rw (map_more f xs i d below, more)
    (made_next R i (map f (take i xs)) (f (get_or xs i d)) ys made (map_long f xs i below) so_far makes)

-- one more element after the others, whose list is joined to theirs
joined_after : {X Y : Type 0} (R : ℕ → X → List Y → Type 0) (k i : ℕ) (xs : List X) (x : X) (ys made : List Y)
    → k + length xs ≡ i
    → IsJoinedFrom R k xs ys → R i x made → IsJoinedFrom R k (xs ++ x ∷ []) (ys ++ made)
joined_after R k i [] x ys made at none makes = let here : i ≡ k =
    omega (arith, at) in (made, [], rw here at makes, refl, rw none (sym (append-nil made)))
joined_after R k i (z ∷ zs) x ys made at (first, rest, here, more, same) makes = (
  first,
  rest ++ made,
  here,
  joined_after R (k + 1) i zs x rest made (omega (arith, at)) more makes,
  rw (same, append_assoc),
)

pub joined_next : {X Y : Type 0} (R : ℕ → X → List Y → Type 0) (i : ℕ) (xs : List X) (x : X) (ys made : List Y)
    → length xs ≡ i → IsJoinedFrom R 0 xs ys → R i x made → IsJoinedFrom R 0 (xs ++ x ∷ []) (ys ++ made)
joined_next R i xs x ys made long so_far makes = joined_after R 0 i xs x ys made (omega arith) so_far makes

pub made_none : {X Y : Type 0} (R : ℕ → X → Y → Type 0) (k : ℕ) (xs : List X) → IsMadeFrom R k xs [] → (i : ℕ) (d : X)
    → i < length xs → (y : Y) → ¬ (R (k + i) (get_or xs i d) y)
made_none R k [] made i d below y holds = absurd (omega arith)
made_none R k (x ∷ xs) (Some z, rest, here, more, is) i d below y holds = absurd (cc)
made_none R k (x ∷ xs) (None, rest, none, more, is) zero d below y holds =
    none y (subst (λ (n : ℕ). R n x y) (omega arith) holds)
made_none R k (x ∷ xs) (None, rest, none, more, is) (suc i) d below y holds =
    made_none R (k + 1) xs (subst (IsMadeFrom R (k + 1) xs) (sym is) more) i d (omega arith) y
    (subst (λ (n : ℕ). R n (get_or xs i d) y) (omega arith) holds)

pub nothing_made : {X Y : Type 0} (R : ℕ → X → Y → Type 0) (k : ℕ) (before : List X) (x : X) (after : List X) (y : Y)
    → IsMadeFrom R k (before ++ (x ∷ after)) [] → R (k + length before) x y → ⊥
nothing_made R k before x after y made makes = made_none R k _ made (length before) x
    (omega (arith, length-append before (x ∷ after))) y (rw get_or-append_seam makes)

pub nothing_joined : {X Y : Type 0} (R : ℕ → X → List Y → Type 0) (k : ℕ) (before : List X) (x : X) (after : List X)
    → IsJoinedFrom R k (before ++ (x ∷ after)) [] → R (k + length before) x []
nothing_joined R k [] x after (made, rest, here, more, same) =
    rw add-zero (subst (R k x) (nil_from_length made (omega (arith, ap length same, length-append made rest))) here)
nothing_joined R k (b ∷ bs) x after (made, rest, here, more, same) =
    let at : k + length (b ∷ bs) ≡ k + 1 + length bs = omega arith in
    rw at (nothing_joined R (k + 1) bs x after
    (rw (nil_from_length rest (omega (arith, ap length same, length-append made rest))) at more))

abbrev pub MakesOnce : {X Y : Type 0} → (ℕ → X → Y → Type 0) → Type 0
MakesOnce {X} {Y} R = (k : ℕ) (x : X) (y z : Y) → R k x y → R k x z → y ≡ z

pub one_joined : {X Y : Type 0} (R : ℕ → X → List Y → Type 0) → MakesOnce R → (k : ℕ) (xs : List X) (ys zs : List Y)
    → IsJoinedFrom R k xs ys → IsJoinedFrom R k xs zs → ys ≡ zs
one_joined R once k [] ys zs of_ys of_zs = of_ys ∙ sym of_zs
one_joined R once k (x ∷ xs) ys zs (a, rest, a_here, a_more, a_same) (b, others, b_here, b_more, b_same) =
    cc (once k x a b a_here b_here, one_joined R once (k + 1) xs rest others a_more b_more)
