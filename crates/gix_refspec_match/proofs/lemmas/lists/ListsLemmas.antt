-- Lists that are made from lists.
use Rattle.std.proofs.Common.{List, [], ◌∷◌, Some, refl, ◌≡◌, ℕ, ◌++◌, Option, sym, ◌∙◌, arith, ap, ◌<◌, length, map}
use Rattle.std.proofs.Common.{take, drop, ◌+◌, get_or, option_map, ◌≤◌, suc, option_to_list, add-zero, length-drop}
use Rattle.std.proofs.lemmas.List.{drop_more, length-take-le, take_more, drop-set-lt, length-set, take-set, take-set-le}
use Rattle.std.proofs.lemmas.Option.{slice_get-get_or}
use Rattle.std.specs.List.{AllByRecursion, SwappedAt, slice_get}
use Rattle.gix_refspec_text.proofs.lemmas.lists.AllLemmas.{all_join}
use Rattle.gix_refspec_match.specs.Matching.Lists.{MakesOf, IsMadeFrom, IsJoinedFrom}
use Rattle.gix_refspec_match.proofs.lemmas.lists.JoinLemmas.{made_next}

pub made_all : {X : Type 0} (R : ℕ → X → X → Type 0) → ((k : ℕ) (x : X) → R k x x) → (k : ℕ) (xs : List X)
    → IsMadeFrom R k xs xs
made_all R stays k [] = refl
made_all R stays k (x ∷ xs) = (Some x, xs, stays k x, made_all R stays (k + 1) xs, refl)

same_made : {X Y : Type 0} (R : ℕ → X → Y → Type 0) → ((k : ℕ) (x : X) (y z : Y) → R k x y → R k x z → y ≡ z)
    → (k : ℕ) (x : X) (a b : Option Y) → MakesOf R k x a → MakesOf R k x b → a ≡ b
same_made R one k x a b is_a is_b = grind (arith, is_a, is_b, one k x)

pub made_once : {X Y : Type 0} (R : ℕ → X → Y → Type 0) → ((k : ℕ) (x : X) (y z : Y) → R k x y → R k x z → y ≡ z)
    → (k : ℕ) (xs : List X) (ys zs : List Y) → IsMadeFrom R k xs ys → IsMadeFrom R k xs zs → ys ≡ zs
made_once R one k [] ys zs empty also = empty ∙ sym also
made_once R one k (x ∷ xs) ys zs (a, rest, of, more, is) (b, rest2, of2, more2, is2) =
    cc (same_made R one k x a b of of2, made_once R one (k + 1) xs rest rest2 more more2)

pub made_map : {X Y U V : Type 0} (f : X → U) (h : Y → V) (R : ℕ → X → Y → Type 0) (S : ℕ → U → V → Type 0) (k : ℕ)
    (xs : List X) (ys : List Y)
    → ((i : ℕ) (d : X) → i < length xs → (made : Option Y) → MakesOf R (k + i) (get_or xs i d) made
    → MakesOf S (k + i) (f (get_or xs i d)) (option_map h made)) → IsMadeFrom R k xs ys
    → IsMadeFrom S k (map f xs) (map h ys)
made_map f h R S k [] ys each empty = ap (map h) empty
made_map f h R S k (x ∷ xs) ys each (made, rest, of, more, is) =
    let others = made_map f h R S (k + 1) xs rest (λ i d below m makes.
    let place : k + suc i ≡ k + 1 + i = omega arith in rw place at (each (suc i) d (omega arith) m (rw place makes)))
    more in (
      option_map h made,
      map h rest,
      rw add-zero at (each 0 x (omega arith) made (rw add-zero of)),
      others,
      ap (map h) is
          ∙ (grind arith),
    )

pub cut : {X : Type 0} (xs rest : List X) (i : ℕ) (d x : X) → drop i xs ≡ x ∷ rest → (get_or xs i d ≡ x)
    × (take (i + 1) xs ≡ take i xs ++ x ∷ []) × (drop (i + 1) xs ≡ rest)
cut xs rest i d x is =
    let below : i < length xs = omega (arith, ap length is, length-drop i xs) in
    let both : x ∷ rest ≡ get_or xs i d ∷ drop (i + 1) xs = sym is ∙ drop_more xs i d below in
    let here : get_or xs i d ≡ x = cc in
    (here, take_more xs i d below ∙ ap (λ y. take i xs ++ y ∷ []) here, cc)

pub cut_next : {X : Type 0} (all : List X) (k : ℕ) (x : X) (xs : List X) → drop k all ≡ x ∷ xs
    → (slice_get all k ≡ Some x)
    × (drop (k + 1) all ≡ xs)
cut_next all k x xs left =
    let (here, _, next) = cut all xs k x x left in
    (slice_get-get_or all k x (omega (arith, ap length left, length-drop k all)) ∙ ap Some here, next)

pub each_made : {X Y : Type 0} (R : ℕ → X → Y → Type 0) (P : Y → Type 0) (all : List X)
    → ((j : ℕ) (x : X) (y : Y) → slice_get all j ≡ Some x → R j x y → P y)
    → (k : ℕ) (xs : List X) (ys : List Y) → drop k all ≡ xs → IsMadeFrom R k xs ys → AllByRecursion P ys
each_made R P all each k [] ys left none = rw none tt
each_made {X} {Y} R P all each k (x ∷ xs) ys left (made, rest, of, more, is) =
    let (here, next) = cut_next all k x xs left in
    rw is (all_join P (option_to_list made) rest (grind (arith, of, each k x, here))
    (each_made R P all each (k + 1) xs rest next more))

-- what holds of the lists that are made of one element after another holds of the list that joins them
pub joined_all : {X Y : Type 0} (R : ℕ → X → List Y → Type 0) (Q : ℕ → List X → List Y → Type 0) (all : List X)
    → ((k : ℕ) → Q k [] [])
    → ((k : ℕ) (x : X) (xs : List X) (made rest : List Y) → slice_get all k ≡ Some x → R k x made → Q (k + 1) xs rest
    → Q k (x ∷ xs) (made ++ rest))
    → (k : ℕ) (xs : List X) (ys : List Y) → drop k all ≡ xs → IsJoinedFrom R k xs ys → Q k xs ys
joined_all R Q all nil step k [] ys left none = rw none (nil k)
joined_all R Q all nil step k (x ∷ xs) ys left (made, rest, of, more, is) =
    let (here, next) = cut_next all k x xs left in
    rw is (step k x xs made rest here of (joined_all R Q all nil step (k + 1) xs rest next more))

-- the first i elements of xs made the first k elements of a list that ends as xs does
abbrev pub KeptSoFar : {X : Type 0} → (ℕ → X → X → Type 0) → List X → List X → ℕ → ℕ → Type 0
KeptSoFar R xs now k i = (k ≤ i) × (length now ≡ length xs) × (drop i now ≡ drop i xs) × IsMadeFrom R 0 (take i xs)
    (take k now)

-- a loop's step: something is made of the element at the place, or nothing
pub kept_more : {X : Type 0} (R : ℕ → X → X → Type 0) (xs now new : List X) (k m i : ℕ) (x : X) (made : Option X)
    → i < length now → KeptSoFar R xs now k i → x ≡ get_or now i x → MakesOf R i x made
    → m ≤ i + 1 → length new ≡ length now → take m new ≡ take k now ++ option_to_list made
    → drop (i + 1) new ≡ drop (i + 1) now → KeptSoFar R xs new m (i + 1)
kept_more R xs now new k m i x made below (_, long, same, so_far) here makes least size front back =
    let also : i < length xs = omega (arith, long) in
    let both : get_or now i x ∷ drop (i + 1) now ≡ get_or xs i x ∷ drop (i + 1) xs = sym (drop_more now i x below)
    ∙ same ∙ drop_more xs i x also in
    let is : get_or xs i x ≡ x = cc in (
      least,
      size ∙ long,
      cc,
      rw (take_more xs i x also, is, front)
          (made_next R i (take i xs) x (take k now) made (length-take-le i xs (omega arith)) so_far makes),
    )

-- and here it is kept, and goes to the front
pub remains_more : {X : Type 0} (R : ℕ → X → X → Type 0) (xs now new : List X) (k i : ℕ) (x : X) → i < length now
    → KeptSoFar R xs now k i → x ≡ get_or now i x → SwappedAt now new k i → R i x x
    → KeptSoFar R xs new (k + 1) (i + 1)
remains_more R xs now new k i x below so_far here swapped stays =
    let is = swapped.3 x in
    let size : length new ≡ length now = ap length is ∙ simp length-set in
    let before : take k new ≡ take k now = ap (take k) is ∙ take-set-le k _ i _ so_far.0 ∙ take-set now k _ in
    let back = ap (drop (i + 1)) is ∙ drop-set-lt (i + 1) _ i _ (omega arith) ∙ drop-set-lt (i + 1) now k _
    (omega arith) in
    kept_more R xs now new k (k + 1) i x (Some x) below so_far here stays (omega arith) size
    (rw (take_more new k x (omega (arith, size)), before, swapped.0 x, ← here) refl) back
