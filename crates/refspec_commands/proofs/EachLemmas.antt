-- Results that are reported one after the other.
use Rattle.std.proofs.Common.{◌≡◌, ℕ, ◌+◌, ◌<◌, ◌≤◌, List, [], ◌∷◌, ◌++◌, length, map, take, get_or, refl, sym, subst}
use Rattle.std.proofs.Common.{Result, Ok, Err, OnOk}
use Rattle.std.proofs.lemmas.List.{append-nil, map_more}
use Rattle.std.proofs.lemmas.Slice.Zip.{all_zipped_more}
use Rattle.std.specs.List.{AllZip}
use Rattle.refspec_io.specs.declared.call.Form.TheVariants as form
use Rattle.refspec_io.proofs.JsonLemmas.{AddsObjects-all, AddsObjects-more}
use Rattle.refspec_commands.specs.Each.{AddsEach, AddsOne}

-- at the start nothing is reported
pub AddsEach-start : {X : Type 0} (Reports : X → List ℕ → Type 0) (old : List ℕ) → AddsEach Reports [] old old
AddsEach-start Reports old = ([], refl, sym (append-nil old))

-- one more element
pub AddsEach-next : {X : Type 0} (Reports : X → List ℕ → Type 0) (xs : List X) (i : ℕ) (x : X) (old mid new : List ℕ)
    → i < length xs → x ≡ get_or xs i x → AddsEach Reports (take i xs) old mid → AddsOne Reports x mid new
    → AddsEach Reports (take (i + 1) xs) old new
AddsEach-next Reports xs i x old mid new below here so_far one =
    AddsObjects-more form.Json form.Json Reports xs i x old mid new below refl here so_far
    (one.0, (one.0, [], one.1, refl, sym (append-nil one.0)), one.2)

-- all elements
pub AddsEach-all : {X : Type 0} (Reports : X → List ℕ → Type 0) (xs : List X) (i : ℕ) (old new : List ℕ)
    → length xs ≤ i → AddsEach Reports (take i xs) old new → AddsEach Reports xs old new
AddsEach-all Reports xs i old new long so_far = AddsObjects-all form.Json Reports xs i old new long so_far

-- what holds holds after a success too
pub ok_always : {T E : Type 0} (r : Result T E) (P : Type 0) → P → OnOk r P
ok_always (Ok x) P holds = holds
ok_always (Err e) P holds = tt

-- one more element of a list that is mapped
pub zip_mapped : {X A B : Type 0} (R : A → B → Type 0) (f : X → A) (xs : List X) (i : ℕ) (d : X) (ys more : List B)
    (y : B) → i < length xs → AllZip R (map f (take i xs)) ys → R (f (get_or xs i d)) y → more ≡ ys ++ y ∷ []
    → AllZip R (map f (take (i + 1) xs)) more
zip_mapped {X} {A} {B} R f xs i d ys more y below so_far is grown =
    subst (λ (l : List A). AllZip R l more) (sym (map_more f xs i d below))
    (subst (AllZip R (map f (take i xs) ++ f (get_or xs i d) ∷ [])) (sym grown) (all_zipped_more R (map f (take i xs))
    ys (f (get_or xs i d)) y so_far is))
