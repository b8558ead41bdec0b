-- Texts that are read one after another.
use Rattle.std.proofs.Common.{◌≡◌, ℕ, ◌+◌, ◌<◌, List, [], ◌∷◌, ◌++◌, map, length, take, get_or, sym, ap, subst, ◌∙◌}
use Rattle.std.proofs.Common.{arith}
use Rattle.std.specs.List.{AllZip}
use Rattle.std.proofs.lemmas.List.{get_or-map, length-map, map-append, take_more}
use Rattle.gix_refspec_text.specs.declared.parsing.Operation.{Operation}
use Rattle.gix_refspec_text.specs.declared.spec.RefSpecRef.{RefSpecRef}
use Rattle.gix_refspec.specs.Specs.Grammar.{Reads}
use Rattle.gix_refspec.specs.Views.Spec.{reading_of}
use Rattle.gix_refspec_c.specs.declared.explanation.Text.{Text}
use Rattle.gix_refspec_c.specs.declared.failure.Failure.{Failure}
use Rattle.gix_refspec_c.specs.declared.failure.Failure.TheVariants as failure
use Rattle.gix_refspec_c.specs.Reading.{IsUnread}
use Rattle.gix_refspec_c.specs.Group.{bytes_of, AreUnread, IsFirstUnread}
use Rattle.std.proofs.lemmas.Slice.Zip.{all_zipped_more}

-- one element more is zipped: what is seen of z, which was added, is related to what is viewed at the index k
pub one_more : {X Y Z W : Type 0} (P : Y → W → Type 0) (view : X → Y) (see : Z → W) (xs : List X) (k : ℕ) (d : X)
    (e : Y) (old new : List Z) (z : Z) → k < length xs → P (view (get_or xs k d)) (see z) → new ≡ old ++ z ∷ []
    → AllZip P (take k (map view xs)) (map see old) → AllZip P (take (k + 1) (map view xs)) (map see new)
one_more {X} {Y} {Z} {W} P view see xs k d e old new z below related write so_far =
    let within : k < length (map view xs) = omega (arith, length-map xs view, below) in
    let more : take (k + 1) (map view xs) ≡ take k (map view xs) ++ view (get_or xs k d) ∷ [] =
    take_more (map view xs) k e within ∙ ap (λ y. take k (map view xs) ++ y ∷ []) (get_or-map view xs k d e below) in
    let seen : map see new ≡ map see old ++ see z ∷ [] = ap (map see) write ∙ map-append see old (z ∷ []) in
    let all = all_zipped_more P (take k (map view xs)) (map see old) (view (get_or xs k d)) (see z) so_far related in
    subst (λ (ys : List Y). AllZip P ys (map see new)) (sym more)
    (subst (λ (ws : List W). AllZip P (take k (map view xs) ++ view (get_or xs k d) ∷ []) ws) (sym seen) all)

-- one text more was read
pub text_more : (op : Operation) (texts : List Text) (k : ℕ) (d : Text) (old new : List RefSpecRef) (s : RefSpecRef)
    → k < length texts → Reads op (bytes_of (get_or texts k d)) (reading_of s) → new ≡ old ++ s ∷ []
    → AllZip (Reads op) (take k (map bytes_of texts)) (map reading_of old)
    → AllZip (Reads op) (take (k + 1) (map bytes_of texts)) (map reading_of new)
text_more op texts k d = one_more (Reads op) bytes_of reading_of texts k d []

-- the failure of the first text that isn't read is that of all
are_unread : (op : Operation) (texts : List (List ℕ)) (f : Failure) → IsFirstUnread op texts f → AreUnread op texts f
are_unread op texts failure.Empty first = first
are_unread op texts failure.NegativeWithDestination first = first
are_unread op texts failure.NegativeEmpty first = first
are_unread op texts failure.NegativeObjectHash first = first
are_unread op texts failure.PushToEmpty first = first
are_unread op texts failure.PatternUnsupported first = first
are_unread op texts failure.PatternUnbalanced first = first
are_unread op texts failure.NameEmpty first = first
are_unread op texts failure.NameEmptyComponent first = first
are_unread op texts failure.NameStartsWithDot first = first
are_unread op texts failure.NameLockSuffix first = first
are_unread op texts failure.NameEndsWithDot first = first
are_unread op texts failure.NameRepeatedDot first = first
are_unread op texts failure.NameReflogPortion first = first
are_unread op texts failure.NameAsterisk first = first
are_unread op texts failure.NameInvalidByte first = first
are_unread op texts failure.NoList first = first
are_unread op texts failure.TooSmall first = first
are_unread op texts failure.NoOperation first = first
are_unread op texts failure.NeedsIds first = first
are_unread op texts failure.InConflict first = first
are_unread op texts failure.MissingSource first = first
are_unread op texts failure.InvalidId first = first
are_unread op texts failure.OtherParts first = first
are_unread op texts failure.NoMemory first = tt

pub text_unread : (op : Operation) (texts : List Text) (k : ℕ) (d : Text) (old : List RefSpecRef) (f : Failure)
    → k < length texts → IsUnread op (bytes_of (get_or texts k d)) f → AllZip (Reads op) (take k (map bytes_of texts))
    (map reading_of old) → AreUnread op (map bytes_of texts) f
text_unread op texts k d old f below why so_far = are_unread op (map bytes_of texts) f (record {
  place = k;
  within = omega (arith, length-map texts bytes_of, below);
  before = map reading_of old;
  read = so_far;
  why = subst (λ (t : List ℕ). IsUnread op t f) (sym (get_or-map bytes_of texts k d [] below)) why;
})
