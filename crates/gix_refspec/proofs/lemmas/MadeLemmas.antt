-- What holds of each element that is made of the elements of a list, or joined of them.
use Rattle.gix_refspec.proofs.Common.{Any as AnyAt, all_join, ◌≡◌, [], ◌∷◌, suc, refl, sym, subst, arith, map, ◌+◌}
use Rattle.gix_refspec.proofs.Common.{slice_get, AllByRecursion, slice_get_within, get_or_from_slice_get, ◌<◌, ◌↔◌}
use Rattle.gix_refspec.proofs.Common.{IsTrue, false, false≢true, length, get_or, each_mapped, All-from_recursion}
use Rattle.gix_refspec.proofs.Common.{IsMadeFrom, IsJoinedFrom, ℕ, List, None, Some, Contains, AnyOf as Any, some_at}
use Rattle.gix_refspec.proofs.Common.{some_of, all_weaker, Option, ◌∙◌, Reading, Ref, Matches, Takes, Source, Mapped}
use Rattle.gix_refspec.proofs.Common.{IsKeptAt, Ends, AreForwardEnds, AreBackwardEnds, Hit, AreSpecHits, AreHits}
use Rattle.gix_refspec.proofs.Common.{IsIdMapping, AreForward, AreBackward, forward_of, backward_of, AtSpec, TakesAt}
use Rattle.gix_refspec.proofs.Common.{MakesForwardOf, MakesBackwardOf, MadeAtIndexes, RemainsExactly, Survives}
use Rattle.gix_refspec.proofs.Common.{HasRefNames, same_Some, ForwardIndexes, ItemIndexesFit, BackwardIndexes, IsSome}
use Rattle.gix_refspec.proofs.Common.{Any-both, Any-weaker, any_made, made_any, rules}

-- an element of a list, by index and by recursion
pub there : {X : Type 0} (ys : List X) (m : X) → Contains ys m → Any (λ y. y ≡ m) ys
there ys m (i, below, is) = some_of (λ y. y ≡ m) ys (i, m, below, is, refl)

pub back : {X : Type 0} (ys : List X) (m : X) → Any (λ y. y ≡ m) ys → Contains ys m
back ys m any = let (i, y, below, is, same) = some_at (λ y. y ≡ m) ys any in subst (Contains ys) same (i, below, is)

pub any_at : {X : Type 0} (P : X → Type 0) (xs : List X) (k : ℕ) (x : X) → slice_get xs k ≡ Some x → P x → AnyAt P xs
any_at P xs k x is holds = (k, x, slice_get_within xs k x is, get_or_from_slice_get xs k x x is, holds)

pub all_at : {X : Type 0} (P : X → Type 0) (xs : List X) (k : ℕ) (x : X) → AllByRecursion P xs → slice_get xs k ≡ Some x
    → P x
all_at P xs k x all is = subst P (get_or_from_slice_get xs k x x is)
    (All-from_recursion P xs all k x (slice_get_within xs k x is))

pub map_each : {A B : Type 0} (P : A → Type 0) (Q : B → Type 0) (f : A → B) → ((x : A) → P x → Q (f x)) → (xs : List A)
    → AllByRecursion P xs → AllByRecursion Q (map f xs)
map_each P Q f of [] all = tt
map_each P Q f of (x ∷ xs) all = (of x all.0, map_each P Q f of xs all.1)

made_standing : {X Y : Type 0} (R : ℕ → X → Y → Type 0) (P : Y → Type 0) (k : ℕ) (xs : List X) (ys : List Y)
    → ((j : ℕ) (x : X) (y : Y) → slice_get xs j ≡ Some x → R (k + j) x y → P y) → IsMadeFrom R k xs ys
    → AllByRecursion P ys
made_standing R P k [] ys each empty = subst (AllByRecursion P) (sym empty) tt
made_standing R P k (x ∷ xs) ys each (None, rest, none, more, is) = subst (AllByRecursion P) (sym is)
    (made_standing R P (k + 1) xs rest (λ j z y at made. each (suc j) z y at (subst (λ n. R n z y) (omega arith) made))
    more)
made_standing R P k (x ∷ xs) ys each (Some y, rest, one, more, is) = subst (AllByRecursion P) (sym is) (
  each 0 x y refl (subst (λ n. R n x y) (omega arith) one),
  made_standing R P (k + 1) xs rest (λ j z w at made. each (suc j) z w at (subst (λ n. R n z w) (omega arith) made))
      more,
)

-- if Q holds of whatever the relation makes of an element of which P holds, and P holds of each, Q holds of each made
pub made_all : {X Y : Type 0} (R : ℕ → X → Y → Type 0) (P : X → Type 0) (Q : Y → Type 0)
    → ((k : ℕ) (x : X) (y : Y) → P x → R k x y → Q y) → (k : ℕ) (xs : List X) (ys : List Y) → AllByRecursion P xs
    → IsMadeFrom R k xs ys → AllByRecursion Q ys
made_all R P Q makes k xs ys all = made_standing R Q k xs ys (λ j x y at. makes (k + j) x y (all_at P xs j x all at))

pub stays_each : {X : Type 0} (S : ℕ → X → Type 0) (P : X → Type 0) (k : ℕ) (xs ys : List X) → AllByRecursion P xs
    → IsMadeFrom (λ j x y. (y ≡ x) × S j x) k xs ys → AllByRecursion P ys
stays_each S P k xs ys all made = made_all (λ j x y. (y ≡ x) × S j x) P P
    (λ j x y holds keeps. subst P (sym keeps.0) holds) k xs ys all made

joined_standing : {X Y : Type 0} (R : ℕ → X → List Y → Type 0) (P : Y → Type 0) (k : ℕ) (xs : List X) (ys : List Y)
    → ((j : ℕ) (x : X) (ys : List Y) → slice_get xs j ≡ Some x → R (k + j) x ys → AllByRecursion P ys)
    → IsJoinedFrom R k xs ys → AllByRecursion P ys
joined_standing R P k [] ys each empty = subst (AllByRecursion P) (sym empty) tt
joined_standing R P k (x ∷ xs) ys each (made, rest, makes, more, is) =
    subst (AllByRecursion P) (sym is)
    (all_join P made rest (each 0 x made refl (subst (λ n. R n x made) (omega arith) makes))
    (joined_standing R P (k + 1) xs rest
    (λ j z made at makes. each (suc j) z made at (subst (λ n. R n z made) (omega arith) makes)) more))

-- if P holds of whatever the relation makes of the element at an index, it holds of each element made
pub each_made : {X Y : Type 0} (R : ℕ → X → Y → Type 0) (P : Y → Type 0) (xs : List X) (ys : List Y)
    → ((k : ℕ) (x : X) (y : Y) → slice_get xs k ≡ Some x → R k x y → P y) → IsMadeFrom R 0 xs ys → AllByRecursion P ys
each_made R P xs ys each = made_standing R P 0 xs ys
    (λ j x y at made. each j x y at (subst (λ n. R n x y) (omega arith) made))

pub each_joined : {X Y : Type 0} (R : ℕ → X → List Y → Type 0) (P : Y → Type 0) (xs : List X) (ys : List Y)
    → ((k : ℕ) (x : X) (made : List Y) → slice_get xs k ≡ Some x → R k x made → AllByRecursion P made)
    → IsJoinedFrom R 0 xs ys → AllByRecursion P ys
each_joined R P xs ys each = joined_standing R P 0 xs ys
    (λ j x made at makes. each j x made at (subst (λ n. R n x made) (omega arith) makes))

-- if P doesn't hold of what one element is mapped to, it doesn't hold of each
pub none_of_all : {A B : Type 0} (f : A → B) (P : B → Type 0) (xs : List A) (k : ℕ) (x : A) → k < length xs
    → x ≡ get_or xs k x → ¬ (P (f x)) → IsTrue false ↔ AllByRecursion P (map f xs)
none_of_all f P xs k x below is none =
    ((λ no. absurd (false≢true no)), λ all. absurd (none (each_mapped f P xs k x all below is)))

-- ---- what the spec and the item at the indexes of a mapping make, and which mappings remain after a check

record IsTakenHit (HasEnds : Reading → Ends → Type 0) (Taken : List ℕ → Ref → Option (List ℕ) → Type 0)
    (g : List Reading) (items : List Ref) (h : Hit) : Type 0 where
  reading : Reading
  here : slice_get g h.spec ≡ Some reading
  takes : TakesAt HasEnds Taken items (Some h.item) h.near h.far reading

spec_takes : (HasEnds : Reading → Ends → Type 0) (Taken : List ℕ → Ref → Option (List ℕ) → Type 0) (g : List Reading)
    (items : List Ref) (k : ℕ) (r : Reading) (hits : List Hit) → slice_get g k ≡ Some r
    → AreSpecHits HasEnds Taken items k r hits → AllByRecursion (IsTakenHit HasEnds Taken g items) hits
spec_takes HasEnds Taken g items k r hits here are = search (arith, rules, each_made)

hits_taken : (HasEnds : Reading → Ends → Type 0) (Taken : List ℕ → Ref → Option (List ℕ) → Type 0) (g : List Reading)
    (items : List Ref) (hits : List Hit) → AreHits HasEnds Taken g items hits
    → AllByRecursion (IsTakenHit HasEnds Taken g items) hits
hits_taken HasEnds Taken g items hits are = each_joined (AreSpecHits HasEnds Taken items)
    (IsTakenHit HasEnds Taken g items) g hits (spec_takes HasEnds Taken g items) are

abbrev pub ForwardAt : List Reading → List Ref → Mapped → Type 0
ForwardAt g items m = AtSpec g m (MakesForwardOf items m.item m.source m.destination)

abbrev pub BackwardAt : List Reading → List Ref → Mapped → Type 0
BackwardAt g items m = AtSpec g m (MakesBackwardOf items m.item m.source m.destination)

id_at : (g : List Reading) (items : List Ref) (k : ℕ) (r : Reading) (m : Mapped) → slice_get g k ≡ Some r
    → IsIdMapping k r m → ForwardAt g items m
id_at g items k r m here is = (
  r,
  subst (λ (i : ℕ). slice_get g i ≡ Some r) (sym is.spec) here,
  subst (λ (s : Source). MakesForwardOf items m.item s m.destination r) (sym is.source) (
    is.item,
    record {
      positive = is.positive;
      text = is.text;
      side = is.side;
      object = is.object;
      becomes =
          is.destination;
    },
  ),
)

pub side_there : (far : Option (List ℕ)) → IsSome far → (x : List ℕ) × (far ≡ Some x)
side_there far some = search (rules, false≢true)

hit_back : (g : List Reading) (items : List Ref) (h : Hit) → IsTakenHit AreBackwardEnds Matches g items h
    → BackwardAt g items (backward_of h)
hit_back g items h taken = search (rules, side_there)

pub forward_all : (g : List Reading) (items : List Ref) (l : List Mapped) → AreForward g items l
    → AllByRecursion (ForwardAt g items) l
forward_all g items l are =
    subst (AllByRecursion (ForwardAt g items)) (sym are.all)
    (all_join (ForwardAt g items) are.ids (map forward_of are.hits)
    (each_made IsIdMapping (ForwardAt g items) g are.ids (id_at g items) are.are_ids)
    (map_each (IsTakenHit AreForwardEnds (Takes items) g items) _ forward_of
    (λ h taken. (taken.reading, taken.here, taken.takes)) are.hits
    (hits_taken AreForwardEnds (Takes items) g items are.hits are.are_hits)))

pub backward_all : (g : List Reading) (items : List Ref) (l : List Mapped) → AreBackward g items l
    → AllByRecursion (BackwardAt g items) l
backward_all g items l are = subst (AllByRecursion (BackwardAt g items)) (sym are.all)
    (map_each _ _ backward_of (hit_back g items) are.hits
    (hits_taken AreBackwardEnds Matches g items are.hits are.are_hits))

pub made_at_indexes : (g : List Reading) (items : List Ref) → MadeAtIndexes g items
made_at_indexes g items = record {
  forward = λ kept are. stays_each (λ k m. IsKeptAt g are.all k m) (ForwardAt g items) 0 are.all kept
      (forward_all g items are.all are.forward) are.is;
  backward = λ kept are. stays_each (λ k m. IsKeptAt g are.all k m) (BackwardAt g items) 0 are.all kept
      (backward_all g items are.all are.backward) are.is;
}

fits_forward : (g : List Reading) (items : List Ref) (m : Mapped) (s : Source) → m.source ≡ s
    → AtSpec g m (MakesForwardOf items m.item s m.destination) → ForwardIndexes g items m
fits_forward g items m s is at = search (arith, rules, same_Some, slice_get_within)

fits_backward : (g : List Reading) (items : List Ref) (m : Mapped) (s : Source) (d : Option (List ℕ))
    → m.destination ≡ d → AtSpec g m (MakesBackwardOf items m.item s d) → BackwardIndexes g items m
fits_backward g items m s d is at = search (arith, rules, slice_get_within)

pub item_indexes_fit : (g : List Reading) (items : List Ref) → ItemIndexesFit g items
item_indexes_fit g items = record {
  forward = λ l are. all_weaker (ForwardAt g items) (ForwardIndexes g items)
      (λ m at. fits_forward g items m m.source refl at) l ((made_at_indexes g items).forward l are);
  backward = λ l are. all_weaker (BackwardAt g items) (BackwardIndexes g items)
      (λ m at. fits_backward g items m m.source m.destination refl at) l ((made_at_indexes g items).backward l are);
  validated = λ l rest fixes valid fit. stays_each (λ j x. Survives x) (ForwardIndexes g items) 0 l rest fit
      valid.survive;
}

exactly : (S : Mapped → Type 0) (xs ys : List Mapped) → IsMadeFrom (λ j x y. (y ≡ x) × S x) 0 xs ys → (m : Mapped)
    → Contains ys m ↔ (Contains xs m × S m)
exactly S xs ys made m = (
  (λ has.
      let both = Any-both (λ x. x ≡ m) (S m) xs
      (Any-weaker _ _ (λ x (j, y, keeps, here). let same : x ≡ m = sym keeps.0
      ∙ here in (same, subst S same keeps.1)) xs (made_any _ (λ y. y ≡ m) 0 xs ys made (there ys m has))) in
      (back xs m both.0, both.1)),
  (λ both. back ys m
      (any_made _ (λ y. y ≡ m) 0 xs ys made
      (Any-weaker _ _ (λ x here j. (x, (refl, subst S (sym here) both.1), λ z keeps. keeps.0 ∙ here)) xs
      (there xs m both.0)))),
)

pub remains_exactly : (g : List Reading) (l : List Mapped) → RemainsExactly g l
remains_exactly g l = record {
  validated = λ rest fixes valid. exactly Survives l rest valid.survive;
  named =
      λ rest out keeps. exactly HasRefNames l rest keeps.named;
}
