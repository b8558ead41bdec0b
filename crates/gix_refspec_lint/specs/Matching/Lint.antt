-- What specs do together, whatever refs a remote has: which two can write one ref from two sources, and which do
-- nothing.
-- By git-fetch(1) under `<refspec>`; that Git refuses to fetch two sources to one ref isn't in the manual of Git 2.39.
use Rattle.std.specs.Prelude.{◌≡◌, ◌≢◌, ◌⊎◌, ◌<◌, ℕ, Bool, true, false, ◌||◌, not, ◌==◌, List, [], ◌∷◌, ◌++◌, codes}
use Rattle.std.specs.Prelude.{Option, Some, IsTrue, MatchBool}
use Rattle.std.specs.List.{AllByRecursion, Contains, list_any, slice_get}
use Rattle.gix_refspec_lint.specs.declared.Reason.{Reason}
use Rattle.gix_refspec_lint.specs.declared.Reason.TheVariants as reason
use Rattle.gix_refspec_text.specs.Texts.Name.{is_refused_byte}
use Rattle.gix_refspec_text.specs.Texts.Bytes.{head}
use Rattle.gix_refspec_text.specs.Specs.Reading.{Reading, Negative, all_tags}
use Rattle.gix_refspec_text.specs.Specs.Grammar.{IsPositive}
use Rattle.gix_refspec_text.specs.Matching.Match.{Ref, HasName}
use Rattle.gix_refspec_text.specs.Matching.Side.{candidates}
use Rattle.gix_refspec_match.specs.Matching.Lists.{IsMadeFrom, IsJoinedFrom}
use Rattle.gix_refspec_match.specs.Matching.Mappings.{Source, name, id, IsExcludedBy, IsSourceExcluded}
use Rattle.gix_refspec_match.specs.Matching.Missing.{LacksSource}
use Rattle.gix_refspec.specs.Matching.RefNames.{IsRefName, IsValidSource}
use Rattle.gix_refspec_plan.specs.Matching.Plan.{CanBeWritten, IsCompleted, IsDirectoryOf}
use Rattle.gix_refspec_plan.specs.Matching.Stale.{ref_named}
use Rattle.gix_refspec.specs.Laws.Matching.{MakesForward}
use Rattle.gix_refspec.specs.Laws.Plans.{SidesLack}

-- ---- what a fetch is asked for

-- what the configuration of a remote asks a fetch for: the values of remote.<name>.fetch, those of branch.<name>.merge
-- of the
-- branches that track this remote, and whether all tags are asked for
pub record Configuration : Type 0 where
  pub values : List Reading
  pub merges : List (List ℕ)
  pub tags : Bool

-- the spec for all tags, where they are asked for
abbrev pub tags_spec : Bool → List Reading
tags_spec false = []
tags_spec true = all_tags ∷ []

-- the values, and that spec behind them
abbrev pub specs_of : Configuration → List Reading
specs_of c = c.values ++ tags_spec c.tags

-- a repository can have refs of all these names: none is a directory of another
abbrev pub AreStorable : List Ref → Type 0
AreStorable refs = (n m : List ℕ) → HasName refs n → HasName refs m → ¬ (IsDirectoryOf n m)

-- ---- what a spec maps

-- over the refs, the spec at index k maps the source to the destination, as a fetch completes that, whether or not an
-- earlier spec does so too or a negative one excludes the source
pub record Maps (g : List Reading) (refs : List Ref) (k : ℕ) (s : Source) (d : Option (List ℕ)) : Type 0 where
  pub reading : Reading
  pub at : slice_get g k ≡ Some reading
  pub completed : Reading
  pub is : IsCompleted reading completed
  pub makes : MakesForward refs s d completed

-- and neither side is invalid
pub record MapsSoundly (g : List Reading) (refs : List Ref) (k : ℕ) (s : Source) (d : Option (List ℕ)) : Type 0 where
  pub maps : Maps g refs k s d
  pub source : IsValidSource s
  pub destination : CanBeWritten d

-- and no spec excludes the source
pub record Fetches (g : List Reading) (refs : List Ref) (k : ℕ) (s : Source) (d : Option (List ℕ)) : Type 0 where
  pub maps : MapsSoundly g refs k s d
  pub included : ¬ (IsSourceExcluded g s)

-- ---- possible conflicts

-- over the refs, which a repository can have, the specs at these indexes fetch different sources to one destination
pub record ConflictOver (g : List Reading) (refs : List Ref) (i j : ℕ) (s t : Source) (d : List ℕ) : Type 0 where
  pub storable : AreStorable refs
  pub one : Fetches g refs i s (Some d)
  pub other : Fetches g refs j t (Some d)
  pub differ : s ≢ t

-- the specs at these indexes conflict over some refs
abbrev pub CanConflict : List Reading → ℕ → ℕ → Type 0
CanConflict g i j = (refs : List Ref) × (s : Source) × (t : Source) × (d : List ℕ) × ConflictOver g refs i j s t d

-- the ref of a source, if it is one
abbrev pub refs_of : Source → List Ref
refs_of (name n) = ref_named n ∷ []
refs_of (id bytes) = []

-- an example of a conflict: the indexes of two specs, a source of each, and their destination
pub record Example : Type 0 where
  pub first : ℕ
  pub second : ℕ
  pub one : Source
  pub other : Source
  pub destination : List ℕ

-- over the refs of the two sources alone the specs, which are at these indexes, conflict so
pub record IsExample (g : List Reading) (i j : ℕ) (e : Example) : Type 0 where
  pub first : e.first ≡ i
  pub second : e.second ≡ j
  pub order : i < j
  pub conflict : ConflictOver g (refs_of e.one ++ refs_of e.other) i j e.one e.other e.destination

-- an example for each two specs that conflict over the refs of two sources, by the first and then by the second
abbrev pub AreExamples : List Reading → List Example → Type 0
AreExamples g found = IsJoinedFrom (λ i r of_first. IsMadeFrom (λ j q e. IsExample g i j e) 0 g of_first) 0 g found

-- ---- possible directory conflicts

-- over the refs, which a repository can have, the spec at index i fetches to a directory of what the one at index j
-- fetches to
pub record NestingOver (g : List Reading) (refs : List Ref) (i j : ℕ) (s t : Source) (d e : List ℕ) : Type 0 where
  pub storable : AreStorable refs
  pub upper : Fetches g refs i s (Some d)
  pub lower : Fetches g refs j t (Some e)
  pub nested : IsDirectoryOf d e

-- they do so over some refs
abbrev pub CanNest : List Reading → ℕ → ℕ → Type 0
CanNest g i j = (refs : List Ref) × (s : Source) × (t : Source) × (d : List ℕ) × (e : List ℕ)
    × NestingOver g refs i j s t d e

-- an example of that: the indexes of both specs, their sources, and their destinations
pub record Nesting : Type 0 where
  pub upper : ℕ
  pub lower : ℕ
  pub one : Source
  pub other : Source
  pub directory : List ℕ
  pub nested : List ℕ

-- the specs at these indexes do so over the refs of the two sources alone
pub record IsNestingOf (g : List Reading) (i j : ℕ) (n : Nesting) : Type 0 where
  pub upper : n.upper ≡ i
  pub lower : n.lower ≡ j
  pub over : NestingOver g (refs_of n.one ++ refs_of n.other) i j n.one n.other n.directory n.nested

-- one of two specs at different indexes does so, in this order or in the other
pub record IsNesting (g : List Reading) (i j : ℕ) (n : Nesting) : Type 0 where
  pub before : i < j
  pub either : IsNestingOf g i j n ⊎ IsNestingOf g j i n

-- an example for each two specs that do so over the refs of two sources, by the lower index and then by the greater
abbrev pub AreNestings : List Reading → List Nesting → Type 0
AreNestings g found = IsJoinedFrom (λ i r of_first. IsMadeFrom (λ j q n. IsNesting g i j n) 0 g of_first) 0 g found

-- ---- idle specs

-- the refs have valid names
abbrev pub AreValid : List Ref → Type 0
AreValid refs = AllByRecursion (λ r. IsRefName r.name) refs

-- the spec has no sound mapping over any refs
abbrev pub NeverMaps : List Reading → ℕ → Type 0
NeverMaps g k = (refs : List Ref) (s : Source) (d : Option (List ℕ)) → ¬ (MapsSoundly g refs k s d)

-- a negative spec excludes each source of its sound mappings
abbrev pub IsAlwaysExcluded : List Reading → ℕ → Type 0
IsAlwaysExcluded g k = (refs : List Ref) (s : Source) (d : Option (List ℕ)) → ¬ (Fetches g refs k s d)

-- an earlier spec maps what it fetches to the same destinations, whatever valid refs there are
abbrev pub IsAlwaysEarlier : List Reading → ℕ → Type 0
IsAlwaysEarlier g k =
    (refs : List Ref) (s : Source) (d : Option (List ℕ)) → AreValid refs → Fetches g refs k s d
    → (h : ℕ) × (h < k) × Maps g refs h s d

-- and it is the spec at index h each time
abbrev pub IsCoveredBy : List Reading → ℕ → ℕ → Type 0
IsCoveredBy g k h = (refs : List Ref) (s : Source) (d : Option (List ℕ)) → AreValid refs → Fetches g refs k s d
    → Maps g refs h s d

-- the spec at index n excludes a source of a sound mapping
pub record ExcludesOne (g : List Reading) (k n : ℕ) : Type 0 where
  pub refs : List Ref
  pub source : List ℕ
  pub destination : Option (List ℕ)
  pub maps : MapsSoundly g refs k (name source) destination
  pub negative : Reading
  pub at : slice_get g n ≡ Some negative
  pub excludes : IsExcludedBy source negative

-- the spec at index h comes before the spec at index k, and maps something that this fetches
pub record DoesBefore (g : List Reading) (k h : ℕ) : Type 0 where
  pub refs : List Ref
  pub source : Source
  pub destination : Option (List ℕ)
  pub fetches : Fetches g refs k source destination
  pub before : h < k
  pub maps : Maps g refs h source destination

-- the spec at index k fetches something that the spec at index h doesn't map
pub record FetchesBeside (g : List Reading) (k h : ℕ) : Type 0 where
  pub refs : List Ref
  pub valid : AreValid refs
  pub source : Source
  pub destination : Option (List ℕ)
  pub fetches : Fetches g refs k source destination
  pub unmapped : ¬ (Maps g refs h source destination)

-- why no mapping of the spec at index k is ever kept
abbrev pub IsIdleBy : List Reading → ℕ → Reason → Type 0
IsIdleBy g k reason.Invalid = NeverMaps g k
IsIdleBy g k (reason.Excluded n) = IsAlwaysExcluded g k × ExcludesOne g k n
IsIdleBy g k (reason.Duplicate h) = IsCoveredBy g k h × DoesBefore g k h
IsIdleBy g k reason.Duplicates = IsAlwaysEarlier g k × ((h : ℕ) → h < k → FetchesBeside g k h)

-- no ref has the source of the spec at index k, though the spec names one
pub record LacksAt (g : List Reading) (refs : List Ref) (k : ℕ) : Type 0 where
  pub reading : Reading
  pub at : slice_get g k ≡ Some reading
  pub lacks : LacksSource refs reading

-- some valid refs lack the source of the spec at index k, and of no other spec: a fetch fails because of this one alone
pub record IsRequired (g : List Reading) (k : ℕ) : Type 0 where
  pub refs : List Ref
  pub valid : AreValid refs
  pub lacks : LacksAt g refs k
  pub alone : (j : ℕ) → j ≢ k → ¬ (LacksAt g refs j)

-- where its source is lacking, that of another spec is too
abbrev pub IsDispensable : List Reading → ℕ → Type 0
IsDispensable g k = (refs : List Ref) → AreValid refs → LacksAt g refs k → (j : ℕ) × (j ≢ k) × LacksAt g refs j

-- an idle spec: its index, why it is idle, and whether it is required all the same
pub record Unused : Type 0 where
  pub spec : ℕ
  pub reason : Reason
  pub required : Bool

-- the record is right of the spec at index k
pub record IsUnused (g : List Reading) (k : ℕ) (u : Unused) : Type 0 where
  pub spec : u.spec ≡ k
  pub reason : IsIdleBy g k u.reason
  pub required : MatchBool u.required (IsRequired g k) (IsDispensable g k)

-- the positive specs that are idle, in order
abbrev pub AreIdle : List Reading → List Unused → Type 0
AreIdle g idle = IsMadeFrom (λ k r u. IsPositive r.mode × IsUnused g k u) 0 g idle

-- ---- idle exclusions

-- Git takes a merged ref as it takes the source of a spec of the call: it is a candidate of the value, as
-- `refs/heads/dev` of
-- `dev`, or of `HEAD` if the value is empty. The manual doesn't say so, nor that a negative value excludes it by its
-- full name
abbrev pub merged_text : List ℕ → List ℕ
merged_text [] = head
merged_text (b ∷ x) = b ∷ x

-- a branch may merge the ref n
pub record IsMerged (merges : List (List ℕ)) (n : List ℕ) : Type 0 where
  pub value : List ℕ
  pub has : Contains merges value
  pub candidate : Contains (candidates (merged_text value)) n
  pub valid : IsRefName n

-- the reading is negative, and excludes no source of a sound mapping and no merged ref
pub record IsIdleExclusion (g : List Reading) (merges : List (List ℕ)) (r : Reading) : Type 0 where
  pub negative : r.mode ≡ Negative
  pub excludes : (refs : List Ref) (i : ℕ) (n : List ℕ) (d : Option (List ℕ)) → MapsSoundly g refs i (name n) d
      → ¬ (IsExcludedBy n r)
  pub merged : (n : List ℕ) → IsMerged merges n → ¬ (IsExcludedBy n r)

-- the indexes of these, in order
abbrev pub AreIdleExclusions : List Reading → List (List ℕ) → List ℕ → Type 0
AreIdleExclusions g merges idle = IsMadeFrom (λ k r made. (made ≡ k) × IsIdleExclusion g merges r) 0 g idle

-- ---- the byte that all this rests on

-- a ref name may have the byte anywhere, and neither the folders of gitrevisions(7), nor `HEAD`, nor `.lock` has it
abbrev pub is_usable : ℕ → Bool
is_usable b = not (is_refused_byte b || list_any (λ c. b == c) (codes "refs/tags/heads/remotes/HEAD.lock*@{"))

-- and no side of a spec has it
pub record IsFree (g : List Reading) (b : ℕ) : Type 0 where
  pub byte : b < 256
  pub usable : IsTrue (is_usable b)
  pub lacks : AllByRecursion (SidesLack b) g
