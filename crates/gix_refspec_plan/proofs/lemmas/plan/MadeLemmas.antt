-- Elements of lists, and what a relation makes of them.
use Rattle.gix_refspec_plan.proofs.Common.{rules, ◌≡◌, ◌↔◌, ◌<◌, ◌+◌, ◌++◌, ◌∙◌, ℕ, suc, List, [], ◌∷◌, None, Some}
use Rattle.gix_refspec_plan.proofs.Common.{length, map, take, get_or, append-nil, map-append, refl, sym, ap, subst}
use Rattle.gix_refspec_plan.proofs.Common.{arith, Contains, IsMadeFrom, MakesOnly, any_made, made_any, made_more}
use Rattle.gix_refspec_plan.proofs.Common.{some_at, some_of, Contains-push_cases}

pub nothing_in : {X : Type 0} (l : List X) (x : X) → l ≡ [] → ¬ (Contains l x)
nothing_in l x empty has = grind arith

pub one_in : {X : Type 0} (x y : X) → Contains (x ∷ []) y → y ≡ x
one_in x y has = grind arith

pub there : {X : Type 0} (y : X) (xs : List X) (x : X) → Contains xs x → Contains (y ∷ xs) x
there y xs x (i, below, at) = (suc i, omega (arith, below), at)

pub push_all : {X : Type 0} (P : X → Type 0) (xs : List X) (x : X) → ((y : X) → Contains xs y → P y) → P x → (y : X)
    → Contains (xs ++ x ∷ []) y → P y
push_all P xs x all last y there = search (rules, Contains-push_cases xs x y there)

pub made_from : {X Y : Type 0} (R : ℕ → X → Y → Type 0) (k : ℕ) (xs : List X) (ys : List Y) (y : Y)
    → IsMadeFrom R k xs ys → Contains ys y → (j : ℕ) × (x : X) × Contains xs x × R j x y
made_from {X} {Y} R k xs ys y made (i, below, at) =
    let is_y = λ (z : Y). z ≡ y in
    let (n, x, inside, here, (j, z, makes, same)) = some_at (λ (x : X). (j : ℕ) × (z : Y) × R j x z × (z ≡ y)) xs
    (made_any R is_y k xs ys made (some_of is_y ys (i, y, below, at, refl))) in
    (j, x, (n, inside, here), subst (R j x) same makes)

-- what is made of an element, if something is, and each such thing is as P says
pub made_has : {X Y : Type 0} (R : ℕ → X → Y → Type 0) (P : Y → Type 0) (k : ℕ) (xs : List X) (ys : List Y) (x : X)
    → IsMadeFrom R k xs ys → Contains xs x
    → ((j : ℕ) → (y : Y) × R j x y) → ((j : ℕ) (z : Y) → R j x z → P z) → (z : Y) × Contains ys z × P z
made_has R P k xs ys x made (i, below, at) makes only =
    let (n, z, inside, here, is) =
    some_at P ys
    (any_made R P k xs ys made
    (some_of (MakesOnly R P) xs (i, x, below, at, λ j. ((makes j).0, (makes j).1, only j)))) in
    (z, (n, inside, here), is)

-- a relation that makes one thing at most of each element makes what some element has
pub made_exactly : {X Y : Type 0} (R : X → Y → Type 0) → ((x : X) (y z : Y) → R x y → R x z → z ≡ y)
    → (xs : List X) (ys : List Y) → IsMadeFrom (λ k x y. R x y) 0 xs ys
    → (y : Y) → Contains ys y ↔ ((x : X) × Contains xs x × R x y)
made_exactly {X} {Y} R once xs ys made y = (
  (λ has. let (k, x, inside, makes) = made_from (λ k x z. R x z) 0 xs ys y made has in (x, inside, makes)),
  (λ (x, inside, makes). let (z, has, same) = made_has (λ k x z. R x z) (λ z. z ≡ y) 0 xs ys x made inside
      (λ k. (y, makes)) (λ k z also. once x y z makes also) in subst (λ (z : Y). Contains ys z) same has),
)

module _ {A B X Y : Type 0} (R : ℕ → X → Y → Type 0) (f : A → X) (h : B → Y) (xs : List A) (i : ℕ) (x : A)
    (old : List B) (below : i < length xs) (is : x ≡ get_or xs i x)
    (so_far : IsMadeFrom R 0 (map f (take i xs)) (map h old)) where
  pub made_one : (new : List B) (y : B) → R i (f x) (h y) → new ≡ old ++ y ∷ []
      → IsMadeFrom R 0 (map f (take (i + 1) xs)) (map h new)
  made_one new y makes more = made_more R f xs i x (map h old) (map h new) (Some (h y)) below so_far
      (subst (λ (z : A). R i (f z) (h y)) is makes) (ap (map h) more ∙ map-append h old (y ∷ []))

  pub made_none : ((y : Y) → ¬ (R i (f x) y)) → IsMadeFrom R 0 (map f (take (i + 1) xs)) (map h old)
  made_none none = made_more R f xs i x (map h old) (map h old) None below so_far
      (subst (λ (z : A). (y : Y) → ¬ (R i (f z) y)) is none) (sym (append-nil (map h old)))
