-- That some element is as P says, in lists that are made or joined from others.
use Rattle.gix_refspec_match.proofs.Common.{List, [], ◌∷◌, None, Some, refl, ℕ, ◌++◌, sym, arith, inl, inr, subst, map}
use Rattle.gix_refspec_match.proofs.Common.{◌+◌, rules, ◌⊎◌, zero, suc, All-from_recursion, AllByRecursion, IsMadeFrom}
use Rattle.gix_refspec_match.proofs.Common.{IsJoinedFrom}
use Rattle.std.specs.List as lists

abbrev pub Any : {X : Type 0} → (X → Type 0) → List X → Type 0
Any P [] = ⊥
Any P (x ∷ xs) = P x ⊎ Any P xs

pub some_at : {X : Type 0} (P : X → Type 0) (xs : List X) → Any P xs → lists.Any P xs
some_at P [] any = absurd any
some_at P (x ∷ xs) (inl here) = (0, x, omega arith, refl, here)
some_at P (x ∷ xs) (inr later) = let (i, y, below, at, is) = some_at P xs later in (
  suc i,
  y,
  omega (arith, below),
  at,
  is,
)

pub some_of : {X : Type 0} (P : X → Type 0) (xs : List X) → lists.Any P xs → Any P xs
some_of P [] (i, x, below, at, is) = absurd (omega (arith, below))
some_of P (y ∷ xs) (zero, x, below, at, is) = inl (subst P (sym at) is)
some_of P (y ∷ xs) (suc i, x, below, at, is) = inr (some_of P xs (i, x, omega (arith, below), at, is))

pub Any-left : {X : Type 0} (P : X → Type 0) (xs ys : List X) → Any P xs → Any P (xs ++ ys)
Any-left P [] ys any = absurd any
Any-left P (x ∷ xs) ys any = search (rules, Any-left P xs ys)

pub Any-right : {X : Type 0} (P : X → Type 0) (xs ys : List X) → Any P ys → Any P (xs ++ ys)
Any-right P [] ys any = any
Any-right P (x ∷ xs) ys any = inr (Any-right P xs ys any)

pub Any-cases : {X : Type 0} (P : X → Type 0) (xs ys : List X) → Any P (xs ++ ys) → Any P xs ⊎ Any P ys
Any-cases P [] ys any = inr any
Any-cases P (x ∷ xs) ys any = search (rules, Any-cases P xs ys)

pub Any-from_map : {X Y : Type 0} (P : Y → Type 0) (f : X → Y) (xs : List X) → Any P (map f xs) → Any (λ x. P (f x)) xs
Any-from_map P f [] any = any
Any-from_map P f (x ∷ xs) any = search (rules, Any-from_map P f xs)

pub Any-map : {X Y : Type 0} (P : Y → Type 0) (f : X → Y) (xs : List X) → Any (λ x. P (f x)) xs → Any P (map f xs)
Any-map P f [] any = any
Any-map P f (x ∷ xs) any = search (rules, Any-map P f xs)

pub Any-all : {X : Type 0} (P Q R : X → Type 0) → ((x : X) → P x → Q x → R x) → (xs : List X) → AllByRecursion P xs
    → Any Q xs → Any R xs
Any-all P Q R both xs all any = let (i, x, below, at, is) = some_at Q xs any in some_of R xs
    (i, x, below, at, both x (subst P at (All-from_recursion P xs all i x below)) is)

pub Any-weaker : {X : Type 0} (P Q : X → Type 0) → ((x : X) → P x → Q x) → (xs : List X) → Any P xs → Any Q xs
Any-weaker P Q weaker xs any = let (i, x, below, at, is) = some_at P xs any in some_of Q xs
    (i, x, below, at, weaker x is)

pub Any-fact : {X : Type 0} (C : Type 0) (xs : List X) → Any (λ x. C) xs → C
Any-fact C xs any = (some_at (λ x. C) xs any).4

pub Any-both : {X : Type 0} (P : X → Type 0) (C : Type 0) (xs : List X) → Any (λ x. P x × C) xs → Any P xs × C
Any-both P C xs any = (Any-weaker _ P (λ x both. both.0) xs any, (some_at _ xs any).4.1)

pub made_any : {X Y : Type 0} (R : ℕ → X → Y → Type 0) (P : Y → Type 0) (k : ℕ) (xs : List X) (ys : List Y)
    → IsMadeFrom R k xs ys → Any P ys → Any (λ x. (j : ℕ) × (y : Y) × R j x y × P y) xs
made_any R P k [] ys empty any = absurd (subst (Any P) empty any)
made_any R P k (x ∷ xs) ys (None, rest, none, more, is) any =
    inr (made_any R P (k + 1) xs rest more (subst (Any P) is any))
made_any R P k (x ∷ xs) ys (Some y, rest, makes, more, is) any = let some = subst (Any P) is any in search
    (rules, made_any R P (k + 1) xs rest more)

-- an element of which something is made, and only what is as P says
abbrev pub MakesOnly : {X Y : Type 0} → (ℕ → X → Y → Type 0) → (Y → Type 0) → X → Type 0
MakesOnly {X} {Y} R P x = (j : ℕ) → (y : Y) × R j x y × ((z : Y) → R j x z → P z)

pub any_made : {X Y : Type 0} (R : ℕ → X → Y → Type 0) (P : Y → Type 0) (k : ℕ) (xs : List X) (ys : List Y)
    → IsMadeFrom R k xs ys → Any (MakesOnly R P) xs → Any P ys
any_made R P k [] ys empty any = absurd any
any_made R P k (x ∷ xs) ys (None, rest, none, more, is) any =
    rw is (elim any [
      | inl here ↦ absurd (none (here k).0 (here k).1)
      | inr later ↦
          any_made R P (k + 1) xs rest more later
    ])
any_made R P k (x ∷ xs) ys (Some y, rest, makes, more, is) any = let others = any_made R P (k + 1) xs rest more in
    rw is (elim any [ inl here ↦ inl ((here k).2 y makes) | inr later ↦ inr (others later) ])

pub any_joined : {X Y : Type 0} (R : ℕ → X → List Y → Type 0) (P : Y → Type 0) (k : ℕ) (xs : List X) (ys : List Y)
    → IsJoinedFrom R k xs ys → Any (λ x. (j : ℕ) (made : List Y) → R j x made → Any P made) xs → Any P ys
any_joined R P k [] ys empty any = absurd any
any_joined R P k (x ∷ xs) ys (made, rest, makes, more, is) any =
    rw is (search (rules, Any-left P made rest, Any-right P made rest, any_joined R P (k + 1) xs rest more))
