-- What the attempts say of the readings.
use Rattle.gix_refspec_why.proofs.Common.{◌≡◌, ◌∷◌, [], ℕ, zero, suc, List, Option, None, Some, refl}
use Rattle.gix_refspec_why.proofs.Common.{sym, subst, take, slice_get, AllByRecursion, AllZip}
use Rattle.gix_refspec_why.proofs.Common.{Reading, Ref, mapped_of, MapsTo, AreAttempts}
use Rattle.gix_refspec_why.proofs.Common.{AttemptsTo, FindsEarlier, FirstOf, IsAttempt, IsFirstWith}
use Rattle.gix_refspec_why.proofs.lemmas.SourceLemmas.{maps_once, own_unmapped}
use Rattle.gix_refspec_why.specs.declared.attempts.Attempt.{Attempt}
use Rattle.gix_refspec_why.specs.declared.attempts.Attempt.TheVariants as attempt

pub zip_take : {X Y : Type 0} (R : X → Y → Type 0) (k : ℕ) (xs : List X) (ys : List Y) → AllZip R xs ys
    → AllZip R (take k xs) (take k ys)
zip_take R zero xs ys all = tt
zip_take R (suc k) [] [] all = tt
zip_take R (suc k) (x ∷ xs) (y ∷ ys) all = (all.0, zip_take R k xs ys all.1)
zip_take R (suc k) [] (y ∷ ys) all = absurd all
zip_take R (suc k) (x ∷ xs) [] all = absurd all

module _ {X Y : Type 0} (R : X → Y → Type 0) (P : X → Type 0) (Q : Y → Type 0)
    (to : (x : X) (y : Y) → R x y → Q y → P x) (back : (x : X) (y : Y) → R x y → P x → Q y) where
  none_zip : (xs : List X) (ys : List Y) → AllZip R xs ys → AllByRecursion (λ y. ¬ (Q y)) ys
      → AllByRecursion (λ x. ¬ (P x)) xs
  none_zip [] [] zip none = tt
  none_zip (x ∷ xs) (y ∷ ys) zip none = (λ is. none.0 (back x y zip.0 is), none_zip xs ys zip.1 none.1)
  none_zip [] (y ∷ ys) zip none = absurd zip
  none_zip (x ∷ xs) [] zip none = absurd zip

  with_zip : (xs : List X) (ys : List Y) (k : ℕ) (y : Y) → AllZip R xs ys → IsFirstWith Q ys k y
      → (x : X) × IsFirstWith P xs k x
  with_zip [] [] k y zip first = absurd (cc (first.at))
  with_zip [] (z ∷ ys) k y zip first = absurd zip
  with_zip (x ∷ xs) [] k y zip first = absurd zip
  with_zip (x ∷ xs) (z ∷ ys) zero y zip first =
      let same : z ≡ y = cc (first.at) in
      (x, record { at = refl; holds = to x z zip.0 (subst Q (sym same) first.holds); before = tt })
  with_zip (x ∷ xs) (z ∷ ys) (suc k) y zip first =
      let (found, is) = with_zip xs ys k y zip.1
      (record { at = first.at; holds = first.holds; before = first.before.1 })
      in (
        found,
        record {
          at = is.at;
          holds = is.holds;
          before = (λ here. first.before.0 (back x z zip.0 here), is.before);
        },
      )

  -- what is first of the one list is first of the other
  pub first_zip : (xs : List X) (ys : List Y) (found : Option ℕ) → AllZip R xs ys → FirstOf Q ys found
      → FirstOf P xs found
  first_zip xs ys None zip none = none_zip xs ys zip none
  first_zip xs ys (Some k) zip (y, first) = with_zip xs ys k y zip first

module _ (refs : List Ref) (n : List ℕ) (d : Option (List ℕ)) where
  attempted : (r : Reading) (a : Attempt) → IsAttempt refs r n a → AttemptsTo d a → MapsTo refs n d r
  attempted r (attempt.Stops f) is to = absurd to
  attempted r (attempt.Maps m) is to = subst (λ d. MapsTo refs n d r) to is.1

  mapped : (r : Reading) (a : Attempt) → IsAttempt refs r n a → MapsTo refs n d r → AttemptsTo d a
  mapped r (attempt.Stops f) is maps = own_unmapped refs n d r maps f is
  mapped r (attempt.Maps m) is maps = maps_once refs n r (mapped_of m).destination d is.1 maps

  -- the first attempt before an index is the first reading before it that maps the name
  pub first_mapped : (g : List Reading) (attempts : List Attempt) (k : ℕ) (found : Option ℕ)
      → AreAttempts g refs n attempts → FirstOf (AttemptsTo d) (take k attempts) found
      → FirstOf (MapsTo refs n d) (take k g) found
  first_mapped g attempts k found are first = first_zip (λ r a. IsAttempt refs r n a) (MapsTo refs n d) (AttemptsTo d)
      attempted mapped (take k g) (take k attempts) found
      (zip_take (λ r a. IsAttempt refs r n a) k g attempts are) first

-- what is beside an element of a list
zip_get : {X Y : Type 0} (R : X → Y → Type 0) (xs : List X) (ys : List Y) (i : ℕ) (y : Y) → AllZip R xs ys
    → slice_get ys i ≡ Some y → (x : X) × (slice_get xs i ≡ Some x) × R x y
zip_get R [] [] i y zip at = absurd (cc (at))
zip_get R [] (z ∷ ys) i y zip at = absurd zip
zip_get R (x ∷ xs) [] i y zip at = absurd zip
zip_get R (x ∷ xs) (z ∷ ys) zero y zip at = let same : z ≡ y = cc (at) in (x, refl, subst (R x) same zip.0)
zip_get R (x ∷ xs) (z ∷ ys) (suc i) y zip at = zip_get R xs ys i y zip.1 at

-- the reading of an attempt, and which one before it maps the name to the same destination
pub attempt_at : (g : List Reading) (refs : List Ref) (n : List ℕ) (attempts : List Attempt) (earlier : List (Option ℕ))
    (i : ℕ) (a : Attempt) (found : Option ℕ) → AreAttempts g refs n attempts → FindsEarlier attempts earlier
    → slice_get attempts i ≡ Some a → slice_get earlier i ≡ Some found
    → (r : Reading) × (slice_get g i ≡ Some r) × IsAttempt refs r n a
    × ((d : Option (List ℕ)) → AttemptsTo d a → FirstOf (MapsTo refs n d) (take i g) found)
attempt_at g refs n attempts earlier i a found are finds at also =
    let (r, there, is) = zip_get (λ r a. IsAttempt refs r n a) g attempts i a are at in (
      r,
      there,
      is,
      λ d to. first_mapped refs n d g attempts i found are (finds.each i a found at also d to),
    )
