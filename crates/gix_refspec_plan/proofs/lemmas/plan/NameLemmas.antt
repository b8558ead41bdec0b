-- Lists that are related element by element.
use Rattle.gix_refspec_plan.proofs.Common.{◌≡◌, ℕ, zero, suc, ◌+◌, ◌<◌, List, [], ◌∷◌, ◌++◌, length, map, take, get_or}
use Rattle.gix_refspec_plan.proofs.Common.{sym, ◌∙◌, arith, AllZip, get_or-map, length-map, map-append, take_more}
use Rattle.gix_refspec_plan.proofs.Common.{rules}
use Rattle.std.proofs.lemmas.Slice.Zip.{AllZip-long, all_zipped_more}

pub zip_more : {X Y : Type 0} (R : X → Y → Type 0) (xs : List X) (ys : List Y) (x : X) (y : Y) → AllZip R xs ys → R x y
    → AllZip R (xs ++ x ∷ []) (ys ++ y ∷ [])
zip_more R xs ys x y all here = all_zipped_more R xs ys x y all here

pub zip_long : {X Y : Type 0} (R : X → Y → Type 0) (xs : List X) (ys : List Y) → AllZip R xs ys → length xs ≡ length ys
zip_long R xs ys all = sym (AllZip-long R xs ys all)

pub zip_at : {X Y : Type 0} (R : X → Y → Type 0) (xs : List X) (ys : List Y) (i : ℕ) (d : X) (e : Y) → AllZip R xs ys
    → i < length xs → R (get_or xs i d) (get_or ys i e)
zip_at R (x ∷ xs) (y ∷ ys) zero d e all below = all.0
zip_at R (x ∷ xs) (y ∷ ys) (suc i) d e all below = zip_at R xs ys i d e all.1 (omega arith)
zip_at R xs ys i d e all below = absurd (first_of (search rules, omega arith))

pub zip_step : {A X Y : Type 0} (R : X → Y → Type 0) (f : A → X) (xs : List A) (i : ℕ) (x : A) (ys : List Y) (y : Y)
    → i < length xs → x ≡ get_or xs i x → AllZip R (map f (take i xs)) ys → R (f x) y
    → AllZip R (map f (take (i + 1) xs)) (ys ++ y ∷ [])
zip_step R f xs i x ys y below is so_far here = rw (take_more xs i x below, map-append, ← is)
    (zip_more R (map f (take i xs)) ys (f x) y so_far here)

pub zip_next : {A X B Y : Type 0} (R : X → Y → Type 0) (f : A → X) (h : B → Y) (xs : List A) (i : ℕ) (x : A)
    (old new : List B) (y : B) → i < length xs → x ≡ get_or xs i x
    → AllZip R (map f (take i xs)) (map h old) → R (f x) (h y) → new ≡ old ++ y ∷ []
    → AllZip R (map f (take (i + 1) xs)) (map h new)
zip_next R f h xs i x old new y below is so_far here more =
    rw (more, map-append) (zip_step R f xs i x (map h old) (h y) below is so_far here)

pub zip_mapped_at : {A X B Y : Type 0} (R : X → Y → Type 0) (f : A → X) (h : B → Y) (xs : List A) (ys : List B) (i : ℕ)
    (x : A) (y : B) → AllZip R (map f xs) (map h ys)
    → i < length xs → x ≡ get_or xs i x → y ≡ get_or ys i y → R (f x) (h y)
zip_mapped_at R f h xs ys i x y all below is_x is_y =
    let long : length xs ≡ length ys = sym (length-map xs f) ∙ zip_long R (map f xs) (map h ys) all ∙ length-map ys h in
    rw (get_or-map f xs i x (f x) below, ← is_x, get_or-map h ys i y (h y) (omega (arith, long)), ← is_y) at
    (zip_at R (map f xs) (map h ys) i (f x) (h y) all (rw length-map below))
