-- How conflicts are found. Only private functions use these definitions.
use Rattle.std.specs.Prelude.{◌≡◌, ◌⊎◌, ◌↔◌, ◌<◌, ◌≤◌, ◌++◌, ℕ, Bool, List, [], ◌∷◌, length, map, Some, option_to_list}
use Rattle.std.specs.declared.cmp.Ordering.{Ordering}
use Rattle.std.specs.Ordering.{nat_cmp, ordering_then}
use Rattle.std.specs.Cmp.Lexicographic.{slice_cmp}
use Rattle.std.specs.declared.cmp.Ordering.TheVariants.{Less}
use Rattle.std.specs.List.{AllByRecursion, flat_map, slice_get}
use Rattle.std.specs.List.Sorted.{IsStrictlySortedBy}
use Rattle.gix_refspec.specs.declared.match_group.validate.conflicts.Update.{Update}
use Rattle.gix_refspec_text.specs.Specs.Reading.{Reading}
use Rattle.gix_refspec_match.specs.Matching.Mappings.{Mapped}
use Rattle.gix_refspec.specs.Matching.Validation.{Conflict, IsConflict, IsFirstTo}
use Rattle.gix_refspec_match.specs.Private.Kept.{IsFlagged}

-- one of the updates is to the destination d by the mapping at index k
abbrev pub HasUpdate : List Update → ℕ → List ℕ → Type 0
HasUpdate [] k d = ⊥
HasUpdate (c ∷ cs) k d = ((c.index ≡ k) × (c.destination.now ≡ d)) ⊎ HasUpdate cs k d

-- by destination, and then by index
abbrev pub update_cmp : Update → Update → Ordering
update_cmp x y = ordering_then (slice_cmp nat_cmp x.destination.now y.destination.now) (nat_cmp x.index y.index)

-- the indexes of updates
abbrev pub updated_indexes : List Update → List ℕ
updated_indexes cs = map (λ c. c.index) cs

-- the mapping at index k of the list has the destination d
abbrev pub GoesTo : List Mapped → ℕ → List ℕ → Type 0
GoesTo l k d = (m : Mapped) × (slice_get l k ≡ Some m) × (m.destination ≡ Some d)

-- the updates of the mappings that have a destination and aren't flagged, sorted
pub record AreUpdates (l : List Mapped) (flags : List Bool) (cs : List Update) : Type 0 where
  pub are : (k : ℕ) (d : List ℕ) → HasUpdate cs k d ↔ (GoesTo l k d × ¬ (IsFlagged flags k))
  pub order : IsStrictlySortedBy update_cmp cs

-- the mapping at index k of the list is the first from its source to the destination d
abbrev pub IsFirstAt : List Mapped → ℕ → List ℕ → Type 0
IsFirstAt l k d = (m : Mapped) × (slice_get l k ≡ Some m) × IsFirstTo d l k m

-- the updates of the first mappings from each source to each destination, sorted
pub record AreFirstUpdates (l : List Mapped) (cs : List Update) : Type 0 where
  pub are : (k : ℕ) (d : List ℕ) → HasUpdate cs k d ↔ IsFirstAt l k d
  pub order : IsStrictlySortedBy update_cmp cs

-- updates of one destination, and others that all have greater ones
pub record IsRun (run others : List Update) : Type 0 where
  pub destination : List ℕ
  pub same : AllByRecursion (λ c. c.destination.now ≡ destination) run
  pub beyond : AllByRecursion (λ c. slice_cmp nat_cmp destination c.destination.now ≡ Less) others

-- the updates of all sources of one destination, which has several
pub record AreConflicting (l : List Mapped) (run : List Update) : Type 0 where
  pub several : 1 < length run
  pub destination : List ℕ
  pub same : AllByRecursion (λ c. c.destination.now ≡ destination) run
  pub are : (k : ℕ) → HasUpdate run k destination ↔ IsFirstAt l k destination
  pub order : IsStrictlySortedBy update_cmp run

-- the conflict over the destination of the updates
pub record IsConflictOf (g : List Reading) (l : List Mapped) (run : List Update) (c : Conflict) : Type 0 where
  pub is : IsConflict g l c
  pub same : AllByRecursion (λ update. update.destination.now ≡ c.destination) run

-- a single update of a destination adds no conflict, and several append theirs
abbrev pub AddsConflict : List Reading → List Mapped → List Update → List Conflict → List Conflict → Type 0
AddsConflict g l run old new = ((length run ≤ 1) × (new ≡ old))
    ⊎ ((c : Conflict) × (1 < length run) × IsConflictOf g l run c × (new ≡ old ++ c ∷ []))

-- the destinations, without missing ones
abbrev pub all_destinations : List Mapped → List (List ℕ)
all_destinations l = flat_map (λ m. option_to_list m.destination) l
