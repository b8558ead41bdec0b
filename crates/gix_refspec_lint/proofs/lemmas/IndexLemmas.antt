-- Specs at indexes, and the same with completed destinations.
use Rattle.gix_refspec_lint.proofs.Common.{all_at, ◌↔◌, ◌≡◌, ℕ, zero, suc, ◌<◌, List, [], ◌∷◌, Option, None, Some}
use Rattle.gix_refspec_lint.proofs.Common.{length, map, option_map, get_or, inl, inr, refl, sym, ap, ◌∙◌, subst, arith}
use Rattle.gix_refspec_lint.proofs.Common.{AllByRecursion, AllZip, Any, Contains, slice_get, recursion_from_All}
use Rattle.gix_refspec_lint.proofs.Common.{Contains-get_or, same_Some, slice_get_read, slice_get-map, slice_get-get_or}
use Rattle.gix_refspec_lint.proofs.Common.{Reading, IsAccepted, Ref, reading_of, RefSpecRef, Source, name, id}
use Rattle.gix_refspec_lint.proofs.Common.{IsExcluded, IsExcludedBy, IsSourceExcluded, MakesForward, IsCompleted}
use Rattle.gix_refspec_lint.proofs.Common.{reading_once, all_accepted, Maps, ◌++◌, ◌⊎◌, HasName, IsFirstCandidate}
use Rattle.gix_refspec_lint.proofs.Common.{Takes, all_weaker, IsPaired, matches_by_name, named_some, some_named}
use Rattle.gix_refspec_lint.proofs.Common.{ConflictsShown, ConflictOver, Fetches, refs_of}
use Rattle.gix_refspec_lint.proofs.{Common.{HasKind, partial}, lemmas.StorableLemmas.fewer_storable}
use Rattle.std.{proofs.lemmas.Slice.Zip.{AllZip-left, AllZip-right}, specs.Option.IsSomeAnd}

pub any_at : {X : Type 0} (P : X → Type 0) (xs : List X) → Any P xs → (k : ℕ) × (x : X) × (slice_get xs k ≡ Some x)
    × P x
any_at P xs (k, x, below, is, holds) = (k, x, slice_get_read xs (length xs) k x refl below (sym is), holds)

pub all_listed : {X : Type 0} (P : X → Type 0) (xs : List X) → ((x : X) → Contains xs x → P x) → AllByRecursion P xs
all_listed P xs each = recursion_from_All P xs (λ k d below. each (get_or xs k d) (Contains-get_or xs k d below))

pub reading_at : (cs : List RefSpecRef) (k : ℕ) (x : RefSpecRef) → k < length cs
    → slice_get (map reading_of cs) k ≡ Some (reading_of (get_or cs k x))
reading_at cs k x below = slice_get-map reading_of cs k ∙ ap (option_map reading_of) (slice_get-get_or cs k x below)

pub read_at : (cs : List RefSpecRef) (k : ℕ) (x : RefSpecRef) → k < length cs → x ≡ get_or cs k x
    → slice_get (map reading_of cs) k ≡ Some (reading_of x)
read_at cs k x below is = reading_at cs k x below ∙ ap (λ y. Some (reading_of y)) (sym is)

pub accepted_of : (cs : List RefSpecRef) (k : ℕ) (c : Reading) → slice_get (map reading_of cs) k ≡ Some c
    → ∥ IsAccepted c ∥₁
accepted_of cs k c at = all_at (λ r. ∥ IsAccepted r ∥₁) (map reading_of cs) k c (all_accepted cs) at

pub excluded_at : (g : List Reading) (k : ℕ) (r : Reading) (n : List ℕ) → slice_get g k ≡ Some r → IsExcludedBy n r
    → IsExcluded g n
excluded_at [] k r n is by = absurd (cc (is))
excluded_at (q ∷ g) zero r n is by = inl (subst (IsExcludedBy n) (sym (same_Some _ _ is)) by)
excluded_at (q ∷ g) (suc k) r n is by = inr (excluded_at g k r n is by)

pub by_index : (g : List Reading) (n : List ℕ) → IsExcluded g n → (k : ℕ) × (r : Reading) × (slice_get g k ≡ Some r)
    × IsExcludedBy n r
by_index [] n none = absurd none
by_index (r ∷ g) n (inl by) = (zero, r, refl, by)
by_index (r ∷ g) n (inr later) = let (k, q, at, by) = by_index g n later in (suc k, q, at, by)

pub excluded_same : (r c : Reading) (n : List ℕ) → IsCompleted r c → IsExcludedBy n r → IsExcludedBy n c
excluded_same r c n done by = record {
  negative = done.mode ∙ by.negative;
  text = by.text;
  source = done.source
      ∙ by.source;
  excludes = by.excludes;
}

-- the same spec maps what its completed reading makes
pub maps_as : {g : List Reading} {k : ℕ} {A B : List Ref} {s t : Source} {d e : Option (List ℕ)} (m : Maps g A k s d)
    → MakesForward B t e m.completed → Maps g B k t e
maps_as m makes = record { reading = m.reading; at = m.at; completed = m.completed; is = m.is; makes = makes }

-- ---- each spec and the same with its destination completed

some_and : {X : Type 0} (P : X → Type 0) (o : Option X) → IsSomeAnd o P → (x : X) × (o ≡ Some x) × P x
some_and P None holds = absurd holds
some_and P (Some x) holds = (x, refl, holds)

module _ (g h : List Reading) (all : AllZip IsCompleted g h) where
  pub completed_at : (k : ℕ) (r : Reading) → slice_get g k ≡ Some r → (c : Reading) × (slice_get h k ≡ Some c)
      × IsCompleted r c
  completed_at k r at = some_and (IsCompleted r) (slice_get h k) (rw at at (AllZip-left IsCompleted g h all k))

  pub zip_of : (k : ℕ) (c : Reading) → slice_get h k ≡ Some c → (r : Reading) × (slice_get g k ≡ Some r)
      × IsCompleted r c
  zip_of k c at = some_and (λ r. IsCompleted r c) (slice_get g k) (rw at at (AllZip-right IsCompleted g h all k))

  pub zip_to : (k : ℕ) (r c : Reading) → slice_get g k ≡ Some r → IsCompleted r c → slice_get h k ≡ Some c
  zip_to k r c at done = let (e, here, is) = completed_at k r at in here ∙ ap Some (reading_once r e c is done)

  pub still_excluded : (s : Source) → IsSourceExcluded g s → IsSourceExcluded h s
  still_excluded (name n) by =
      let (k, r, at, one) = by_index g n by in
      let (c, here, done) = completed_at k r at in
      excluded_at h k c n here (excluded_same r c n done one)
  still_excluded (id bytes) none = none

  module _ (k : ℕ) (c : Reading) (at : slice_get h k ≡ Some c) where
    pub maps_of : (refs : List Ref) (s : Source) (d : Option (List ℕ)) → MakesForward refs s d c → Maps g refs k s d
    maps_of refs s d makes = let (r, here, done) = zip_of k c at in record {
      reading = r;
      at = here;
      completed = c;
      is =
          done;
      makes = makes;
    }

    pub one_completed : {refs : List Ref} {s : Source} {d : Option (List ℕ)} (m : Maps g refs k s d) → m.completed ≡ c
    one_completed m = same_Some _ _ (sym (zip_to k m.reading m.completed m.at m.is) ∙ at)

    pub of_maps : (refs : List Ref) (s : Source) (d : Option (List ℕ)) → Maps g refs k s d → MakesForward refs s d c
    of_maps refs s d m = subst (MakesForward refs s d) (one_completed m) m.makes

-- ---- what a spec maps over some refs, it maps over fewer that have the source

abbrev pub AreAmong : List Ref → List Ref → Type 0
AreAmong few refs = (n : List ℕ) → HasName few n → HasName refs n

abbrev pub IsThere : List Ref → Source → Type 0
IsThere refs (name n) = HasName refs n
IsThere refs (id bytes) = Unit {0}

pub made_there : (refs : List Ref) (s : Source) (d : Option (List ℕ)) (r : Reading) → MakesForward refs s d r
    → IsThere refs s
made_there refs (name n) d r makes = some_named (IsPaired (Takes refs) makes.ends n d) refs n
    (λ item paired. paired.name) makes.one
made_there refs (id bytes) d r makes = tt

-- a spec that maps a name over some refs maps it over others where it is, if a partial source has it as its first
-- candidate
pub makes_again : (refs few : List Ref) (n : List ℕ) (d : Option (List ℕ)) (r : Reading) → HasName few n
    → (makes : MakesForward refs (name n) d r)
    → ((m : List ℕ) → HasKind makes.ends.near (partial m) → IsFirstCandidate few m n) → MakesForward few (name n) d r
makes_again refs few n d r there makes first =
    let (k, item, below, is, paired) = makes.one in
    record {
      ends = makes.ends;
      has = makes.has;
      one = named_some (IsPaired (Takes few) makes.ends n d) few n there (λ other named. record {
        word = paired.word;
        name = named;
        takes = record {
          matches = matches_by_name makes.ends item other _ (paired.name ∙ sym named) makes.has.no_object
              paired.takes.matches;
          first = λ m kind. rw named (first m kind);
        };
        becomes = paired.becomes;
      });
    }

pub makes_fewer : (refs few : List Ref) (s : Source) (d : Option (List ℕ)) (r : Reading) → AreAmong few refs
    → IsThere few s → MakesForward refs s d r → MakesForward few s d r
makes_fewer refs few (id bytes) d r among present makes = makes
makes_fewer refs few (name n) d r among present makes =
    makes_again refs few n d r present makes (λ m kind.
    let first = subst (IsFirstCandidate refs m) makes.one.4.name (makes.one.4.takes.first m kind) in
    record {
      earlier = first.earlier;
      later = first.later;
      here = first.here;
      absent =
          all_weaker _ _ (λ o none there. none (among o there)) first.earlier first.absent;
      present = present;
    })

pub named_in : (xs ys : List Ref) (n : List ℕ) → HasName (xs ++ ys) n ↔ (HasName xs n ⊎ HasName ys n)
named_in [] ys n = grind arith
named_in (x ∷ xs) ys n = grind (arith, named_in xs ys n)

pub own_among : (refs : List Ref) (s : Source) → IsThere refs s → AreAmong (refs_of s) refs
own_among refs (name n) there m (inl is) = subst (HasName refs) is there
own_among refs (name n) there m (inr none) = absurd none
own_among refs (id bytes) there m none = absurd none

pub own_there : (s : Source) → IsThere (refs_of s) s
own_there (name n) = inl refl
own_there (id bytes) = tt

there_more : (few refs : List Ref) (s : Source) → AreAmong few refs → IsThere few s → IsThere refs s
there_more few refs (name n) among there = among n there
there_more few refs (id bytes) among there = tt

fetches_fewer : (g : List Reading) (refs few : List Ref) (k : ℕ) (s : Source) (d : Option (List ℕ)) → AreAmong few refs
    → IsThere few s → Fetches g refs k s d → Fetches g few k s d
fetches_fewer g refs few k s d among present f =
    record {
      maps = record {
        maps = maps_as f.maps.maps (makes_fewer refs few s d _ among present f.maps.maps.makes);
        source = f.maps.source;
        destination = f.maps.destination;
      };
      included = f.included;
    }

-- so two refs are enough for a conflict
pub conflict_of_two : (g : List Reading) (refs : List Ref) (i j : ℕ) (s t : Source) (d : List ℕ)
    → ConflictOver g refs i j s t d → ConflictOver g (refs_of s ++ refs_of t) i j s t d
conflict_of_two g refs i j s t d c =
    let there = made_there refs s (Some d) c.one.maps.maps.completed c.one.maps.maps.makes in
    let also = made_there refs t (Some d) c.other.maps.maps.completed c.other.maps.maps.makes in
    let among : AreAmong (refs_of s ++ refs_of t) refs = λ m has. elim
    ((named_in (refs_of s) (refs_of t) m).0 has) [
      | inl one ↦ own_among refs s there m one
      | inr other ↦
          own_among refs t also m other
    ] in
    record {
      storable = fewer_storable refs (refs_of s ++ refs_of t) among c.storable;
      one = fetches_fewer g refs (refs_of s ++ refs_of t) i s (Some d) among
          (there_more (refs_of s) _ s (λ m has. (named_in (refs_of s) (refs_of t) m).1 (inl has)) (own_there s)) c.one;
      other = fetches_fewer g refs (refs_of s ++ refs_of t) j t (Some d) among
          (there_more (refs_of t) _ t (λ m has. (named_in (refs_of s) (refs_of t) m).1 (inr has)) (own_there t))
          c.other;
      differ = c.differ;
    }

pub conflicts_shown : (g : List Reading) → ConflictsShown g
conflicts_shown g i j order (refs, s, t, d, c) = (
  record { first = i; second = j; one = s; other = t; destination = d },
  record { first = refl; second = refl; order = order; conflict = conflict_of_two g refs i j s t d c },
)
