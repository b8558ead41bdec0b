-- Which mappings can't be written: those of several sources to one destination, and those to a destination that isn't a
-- full name. Git refuses the first as well; git-fetch(1) under `<refspec>` mentions neither. The order of conflicts and
-- of their sources, that a destination outside `refs/` is left out, and that `HEAD` is not, are this project's own
-- rules.
use Rattle.std.specs.Prelude.{◌≡◌, ◌≢◌, ◌⊎◌, ◌<◌, ℕ, List, [], ◌∷◌, length, map, take, None, Some, MatchOption, codes}
use Rattle.std.specs.Ordering.{nat_cmp}
use Rattle.std.specs.Cmp.Lexicographic.{slice_cmp}
use Rattle.std.specs.List.{AllByRecursion, Contains, slice_get}
use Rattle.std.specs.List.Sorted.{IsStrictlySortedBy}
use Rattle.gix_refspec_text.specs.Texts.Bytes.{head}
use Rattle.gix_refspec_text.specs.Texts.Words.{BeginsWith}
use Rattle.gix_refspec_text.specs.Specs.Reading.{Reading}
use Rattle.gix_refspec_text.specs.Specs.Meaning.{printed}
use Rattle.gix_refspec_match.specs.Matching.Lists.{IsMadeFrom}
use Rattle.gix_refspec_text.specs.Matching.Match.{Ref}
use Rattle.gix_refspec_match.specs.Matching.Mappings.{Source, name, id, Mapped, HasPair}
use Rattle.gix_refspec_match.specs.Matching.Hits.{AreKeptForward, AreKeptBackward}

-- the spec index of each mapping is in the group
abbrev pub IndexesFit : List Reading → List Mapped → Type 0
IndexesFit g l = AllByRecursion (λ m. m.spec < length g) l

-- two mappings of the list have the destination d and different sources
pub record HasConflictAt (l : List Mapped) (d : List ℕ) : Type 0 where
  pub one : Mapped
  pub other : Mapped
  pub has_one : Contains l one
  pub has_other : Contains l other
  pub one_to : one.destination ≡ Some d
  pub other_to : other.destination ≡ Some d
  pub differ : one.source ≢ other.source

-- m, which is in the list at index k, has the destination d, and no earlier mapping to d has its source
pub record IsFirstTo (d : List ℕ) (l : List Mapped) (k : ℕ) (m : Mapped) : Type 0 where
  pub goes : m.destination ≡ Some d
  pub first : ¬ (HasPair (take k l) m)

-- the spec at this index of the group has this canonical text
abbrev pub IsTextAt : List Reading → ℕ → List ℕ → Type 0
IsTextAt g index text = (r : Reading) × (slice_get g index ≡ Some r) × (printed r ≡ Some text)

-- a destination, the sources that are mapped to it, and for each the text of a spec
pub record Conflict : Type 0 where
  pub destination : List ℕ
  pub sources : List Source
  pub texts : List (List ℕ)

-- two sources or more are mapped to the destination: these, in the order of their first mappings to it, with
-- the canonical texts of the specs of these mappings
pub record IsConflict (g : List Reading) (l : List Mapped) (c : Conflict) : Type 0 where
  pub contested : HasConflictAt l c.destination
  pub sources : IsMadeFrom (λ k m source. IsFirstTo c.destination l k m × (source ≡ m.source)) 0 l c.sources
  pub texts : IsMadeFrom (λ k m text. IsFirstTo c.destination l k m × IsTextAt g m.spec text) 0 l c.texts

-- all conflicts of the mappings, in the byte order of their destinations, without duplicates
pub record AreConflicts (g : List Reading) (l : List Mapped) (cs : List Conflict) : Type 0 where
  pub each : AllByRecursion (IsConflict g l) cs
  pub every : (d : List ℕ) → HasConflictAt l d → Contains (map (λ c. c.destination) cs) d
  pub order : IsStrictlySortedBy (slice_cmp nat_cmp) (map (λ c. c.destination) cs)

-- the destination can be written: it begins `refs/`, or it is `HEAD`
abbrev pub IsWritable : List ℕ → Type 0
IsWritable d = BeginsWith (codes "refs/") d ⊎ (d ≡ head)

-- the mapping survives: it has no destination, or one that can be written
abbrev pub Survives : Mapped → Type 0
Survives m = MatchOption m.destination (Unit {0}) IsWritable

-- rest has the mappings of the list that survive, in order
abbrev pub AreSurvivors : List Mapped → List Mapped → Type 0
AreSurvivors l rest = IsMadeFrom (λ k m made. (made ≡ m) × Survives m) 0 l rest

-- a removed mapping: its destination, and the reading of its spec
pub record Removed : Type 0 where
  pub destination : List ℕ
  pub spec : Reading

-- the mapping has a destination that can't be written, and was removed for it
pub record IsFix (g : List Reading) (m : Mapped) (fix : Removed) : Type 0 where
  pub goes : m.destination ≡ Some fix.destination
  pub unwritable : ¬ (IsWritable fix.destination)
  pub spec : slice_get g m.spec ≡ Some fix.spec

-- one fix for each mapping that doesn't survive, in order
abbrev pub AreFixes : List Reading → List Mapped → List Removed → Type 0
AreFixes g l fixes = IsMadeFrom (λ k m fix. IsFix g m fix) 0 l fixes

-- no destination is in conflict, rest has the surviving mappings, and there is a fix for each other one
pub record IsValidated (g : List Reading) (l rest : List Mapped) (fixes : List Removed) : Type 0 where
  pub free : AreConflicts g l []
  pub survive : AreSurvivors l rest
  pub fixed : AreFixes g l fixes

-- mappings of the list with the same destination have the same source
abbrev pub DestinationsHaveOneSource : List Mapped → Type 0
DestinationsHaveOneSource l = (m n : Mapped) (d : List ℕ) → Contains l m → Contains l n → m.destination ≡ Some d
    → n.destination ≡ Some d → m.source ≡ n.source

-- the mappings have the same destination
abbrev pub ShareDestination : Mapped → Mapped → Type 0
ShareDestination m n = (d : List ℕ) × (m.destination ≡ Some d) × (n.destination ≡ Some d)

-- no two of the mappings have the same destination
abbrev pub HaveDistinctDestinations : List Mapped → Type 0
HaveDistinctDestinations [] = Unit {0}
HaveDistinctDestinations (m ∷ l) = AllByRecursion (λ n. ¬ (ShareDestination m n)) l × HaveDistinctDestinations l

-- after a validation, mappings with the same destination have the same source; if the mappings came from items, no two
-- have the same destination
abbrev pub ValidatedOnce : List Reading → List Ref → Type 0
ValidatedOnce g items = (l rest : List Mapped) (fixes : List Removed) → IsValidated g l rest fixes
    → DestinationsHaveOneSource rest × (AreKeptForward g items l → HaveDistinctDestinations rest)

-- the spec indexes of mappings that came from items are in the group
abbrev pub ForwardFits : List Reading → List Ref → Type 0
ForwardFits g items = (l : List Mapped) → AreKeptForward g items l → IndexesFit g l

-- from left to right, the indexes of a mapping are those of a reading and of the item whose name is its source; without
-- an item its source is an id
pub record ForwardIndexes (g : List Reading) (items : List Ref) (m : Mapped) : Type 0 where
  pub spec : m.spec < length g
  pub item : (j : ℕ) → m.item ≡ Some j → (r : Ref) × (slice_get items j ≡ Some r) × (m.source ≡ name r.name)
  pub start : m.item ≡ None → (bytes : List ℕ) × (m.source ≡ id bytes)

-- from right to left, they are those of a reading and of the item whose name is its destination
pub record BackwardIndexes (g : List Reading) (items : List Ref) (m : Mapped) : Type 0 where
  pub spec : m.spec < length g
  pub index : ℕ
  pub ref : Ref
  pub item : m.item ≡ Some index
  pub stands : slice_get items index ≡ Some ref
  pub named : m.destination ≡ Some ref.name

-- that holds of each kept mapping, and of each that survives a validation if it held before
pub record ItemIndexesFit (g : List Reading) (items : List Ref) : Type 0 where
  pub forward : (l : List Mapped) → AreKeptForward g items l → AllByRecursion (ForwardIndexes g items) l
  pub backward : (l : List Mapped) → AreKeptBackward g items l → AllByRecursion (BackwardIndexes g items) l
  pub validated : (l rest : List Mapped) (fixes : List Removed) → IsValidated g l rest fixes
      → AllByRecursion (ForwardIndexes g items) l → AllByRecursion (ForwardIndexes g items) rest
