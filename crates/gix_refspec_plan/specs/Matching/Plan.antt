-- What git fetch writes, by git-fetch(1) under `<refspec>`, `--refmap`, `--tags` and "configured remote-tracking
-- branches". How a destination without `refs/` is completed, which of several merge refs is fetched, and that a
-- missing source or a conflict stops the whole fetch, isn't in the manual of Git 2.39; Git does so.
use Rattle.std.specs.Prelude.{◌≡◌, ◌≢◌, ◌⊎◌, ℕ, Bool, true, false, List, [], ◌∷◌, ◌++◌, Option, None, Some, IsSome, map}
use Rattle.std.specs.Prelude.{take, codes, MatchOption}
use Rattle.std.specs.List.{AllByRecursion, AllZip, Contains, slice_get}
use Rattle.gix_refspec_plan.specs.declared.Origin.{Origin}
use Rattle.gix_refspec_plan.specs.declared.Origin.TheVariants as origin
use Rattle.gix_refspec_plan.specs.declared.Verdict.{Verdict}
use Rattle.gix_refspec_plan.specs.declared.Verdict.TheVariants as verdict
use Rattle.gix_refspec.specs.declared.match_group.ref_names.InvalidSide.{InvalidSide}
use Rattle.gix_refspec.specs.declared.match_group.ref_names.InvalidSide.TheVariants as invalid
use Rattle.gix_refspec_text.specs.Texts.Bytes.{head, slash, star}
use Rattle.gix_refspec_text.specs.Texts.Words.{BeginsWith, Lacks}
use Rattle.gix_refspec_text.specs.Texts.Name.{HasStar, IsName}
use Rattle.gix_refspec_text.specs.Specs.Reading.{Reading, Negative, all_tags, fetched_alone}
use Rattle.gix_refspec_text.specs.Specs.Grammar.{IsPositive}
use Rattle.gix_refspec_text.specs.Matching.Side.{written_name_of}
use Rattle.gix_refspec_text.specs.Matching.Match.{Ref}
use Rattle.gix_refspec_match.specs.Matching.Lists.{IsMadeFrom}
use Rattle.gix_refspec_match.specs.Matching.Mappings.{Source, name, Mapped, HasPair}
use Rattle.gix_refspec_match.specs.Matching.Hits.{AreKeptForward}
use Rattle.gix_refspec_match.specs.Matching.Missing.{LacksSource}
use Rattle.gix_refspec.specs.Matching.RefNames.{IsRefName, IsValidSource}
use Rattle.gix_refspec.specs.Matching.Validation.{ShareDestination}

-- ---- what is asked for

-- what a fetch is asked for: the specs of the call, those of the configuration, the values of branch.<name>.merge of
-- the
-- current branch, if it tracks this remote, and whether all tags are asked for
pub record Wish : Type 0 where
  pub given : List Reading
  pub configured : List Reading
  pub merges : List (List ℕ)
  pub tags : Bool

-- a spec that maps refs of the remote, and where it comes from
pub record Asked : Type 0 where
  pub reading : Reading
  pub origin : Origin

-- the spec for all tags, where they are asked for
abbrev pub tags_asked : Bool → List Asked
tags_asked false = []
tags_asked true = record { reading = all_tags; origin = origin.AllTags } ∷ []

-- ---- the refs that specs map

-- the spec as a fetch writes it: a destination without a star is completed to a ref
pub record IsCompleted (r completed : Reading) : Type 0 where
  pub operation : completed.operation ≡ r.operation
  pub mode : completed.mode ≡ r.mode
  pub source : completed.source ≡ r.source
  pub destination : MatchOption r.destination (completed.destination ≡ None)
      (λ d. (HasStar d × (completed.destination ≡ Some d))
      ⊎ (Lacks star d × (completed.destination ≡ Some (written_name_of d))))

-- the mappings of the specs over the refs, with completed destinations: those of `match_lhs`
pub record AreMapped (asked : List Asked) (refs : List Ref) (mapped : List Mapped) : Type 0 where
  pub completed : List Reading
  pub are : AllZip IsCompleted (map (λ a. a.reading) asked) completed
  pub kept : AreKeptForward completed refs mapped

-- the specs of a list that P allows, each with its index
abbrev pub AreThose : (Reading → Type 0) → (ℕ → Origin) → List Reading → List Asked → Type 0
AreThose P origin_at specs asked = IsMadeFrom (λ k r a. (a ≡ record { reading = r; origin = origin_at k }) × P r) 0
    specs asked

-- the reading is positive; it is negative
abbrev pub IsPositiveReading : Reading → Type 0
IsPositiveReading r = IsPositive r.mode

abbrev pub IsNegativeReading : Reading → Type 0
IsNegativeReading r = r.mode ≡ Negative

-- a destination is missing, or it is a ref below `refs/` with a valid name
abbrev pub CanBeWritten : Option (List ℕ) → Type 0
CanBeWritten d = MatchOption d (Unit {0}) (λ n. BeginsWith (codes "refs/") n × IsName n)

-- only this side of the mapping is invalid; or both are
abbrev pub IsUnwritableAt : InvalidSide → Mapped → Type 0
IsUnwritableAt invalid.Source m = ¬ (IsValidSource m.source) × CanBeWritten m.destination
IsUnwritableAt invalid.Destination m = IsValidSource m.source × ¬ (CanBeWritten m.destination)
IsUnwritableAt invalid.Both m = ¬ (IsValidSource m.source) × ¬ (CanBeWritten m.destination)

-- neither side of the mapping is invalid
pub record IsSound (m : Mapped) : Type 0 where
  pub source : IsValidSource m.source
  pub destination : CanBeWritten m.destination

-- a sound mapping has the ref n as its source
abbrev pub Covers : List Mapped → List ℕ → Type 0
Covers mapped n = (m : Mapped) × Contains mapped m × IsSound m × (m.source ≡ name n)

-- ---- which specs map the refs of the remote

-- the merged refs that no sound mapping covers, each once. Of a value that isn't a ref name Git takes a ref if the
-- server
-- happens to list it, for another spec or as a tag; here such a value is ignored
abbrev pub AreMerges : List (List ℕ) → List Mapped → List Asked → Type 0
AreMerges merges mapped asked = IsMadeFrom (λ k n a. (a ≡ record { reading = fetched_alone n; origin = origin.Merge k })
    × IsRefName n × ¬ (Covers mapped n) × ¬ (Contains (take k merges) n)) 0 merges asked

-- what the current branch merges and no configured spec fetches
abbrev pub AreUncovered : Wish → List Ref → List Asked → Type 0
AreUncovered wish refs asked =
    ((wish.merges ≡ []) × (asked ≡ []))
    ⊎ ((configured : List Asked) × (mapped : List Mapped)
    × AreThose (λ r. Unit {0}) origin.Configured wish.configured configured
    × AreMapped configured refs mapped × AreMerges wish.merges mapped asked)

-- the specs without any in the call: the configured ones, and what the current branch merges; or `HEAD` where there are
-- neither
pub data AreConfigured (wish : Wish) (refs : List Ref) (asked : List Asked) : Type 0 where
  by_configuration : (configured merges : List Asked) → (wish.configured ≢ []) ⊎ (wish.merges ≢ [])
      → AreThose (λ r. Unit {0}) origin.Configured wish.configured configured → AreUncovered wish refs merges
      → asked ≡ configured ++ merges → AreConfigured wish refs asked
  by_default : wish.configured ≡ [] → wish.merges ≡ []
      → asked ≡ record { reading = fetched_alone head; origin = origin.Default } ∷ [] → AreConfigured wish refs asked

-- the specs that map the refs of the remote: those of the call, if there are any. Behind them all tags, where they are
-- asked for
pub data AreAsked (wish : Wish) (refs : List Ref) (asked : List Asked) : Type 0 where
  by_call : (given : List Asked) → wish.given ≢ [] → AreThose (λ r. Unit {0}) origin.Given wish.given given
      → asked ≡ given ++ tags_asked wish.tags → AreAsked wish refs asked
  without : (configured : List Asked) → wish.given ≡ [] → AreConfigured wish refs configured
      → asked ≡ configured ++ tags_asked wish.tags → AreAsked wish refs asked

-- a sound mapping has the ref at index k as its source
abbrev pub IsTakenAt : List Mapped → ℕ → Type 0
IsTakenAt mapped k = (m : Mapped) × Contains mapped m × IsSound m × (m.item ≡ Some k)

-- the refs that the positive given specs map, whatever the negative ones exclude, with their indexes
pub record AreTaken (given : List Reading) (refs : List Ref) (indexes : List ℕ) (taken : List Ref) : Type 0 where
  pub asked : List Asked
  pub mapped : List Mapped
  pub are_asked : AreThose IsPositiveReading origin.Given given asked
  pub are_mapped : AreMapped asked refs mapped
  pub are_indexes : IsMadeFrom (λ k r index. (index ≡ k) × IsTakenAt mapped k) 0 refs indexes
  pub are_taken : IsMadeFrom (λ k r made. (made ≡ r) × IsTakenAt mapped k) 0 refs taken

-- with given specs the positive configured ones are applied to the refs that these took, and the negative given ones
-- exclude from them; without given specs nothing is tracked besides
pub data IsTracked (wish : Wish) (refs : List Ref) (asked : List Asked) (indexes : List ℕ) (mapped : List Mapped) :
    Type 0 where
  by_call : (positive negative : List Asked) (taken : List Ref) → wish.given ≢ []
      → AreThose IsPositiveReading origin.Configured wish.configured positive
      → AreThose IsNegativeReading origin.Given wish.given negative
      → asked ≡ positive ++ negative → AreTaken wish.given refs indexes taken → AreMapped asked taken mapped
      → IsTracked wish refs asked indexes mapped
  nothing : wish.given ≡ [] → asked ≡ [] → indexes ≡ [] → mapped ≡ [] → IsTracked wish refs asked indexes mapped

-- ---- the plan

-- what a fetch does with a ref or an object: where it is on the remote, its index among the refs, what it is written
-- to, which
-- spec does so, and whether it is written
pub record Planned : Type 0 where
  pub source : Source
  pub item : Option ℕ
  pub destination : Option (List ℕ)
  pub origin : Origin
  pub verdict : Verdict

-- another of the mappings is sound too, and from another source to the same destination
abbrev pub IsContested : List Mapped → Mapped → Type 0
IsContested l m = (n : Mapped) × Contains l n × IsSound n × ShareDestination m n × (m.source ≢ n.source)

-- one of the mappings is sound and has the same destination
abbrev pub IsTakenOver : List Mapped → Mapped → Type 0
IsTakenOver l m = (n : Mapped) × Contains l n × IsSound n × ShareDestination m n

-- refs of the one name are in a directory of the other name: this one followed by `/` begins the other
abbrev pub IsDirectoryOf : List ℕ → List ℕ → Type 0
IsDirectoryOf d e = BeginsWith (d ++ slash ∷ []) e

-- one of the names is a directory of the other, so Git can't store refs of both: a directory/file conflict
abbrev pub AreNested : List ℕ → List ℕ → Type 0
AreNested d e = IsDirectoryOf d e ⊎ IsDirectoryOf e d

-- one of both destinations is a directory of the other
abbrev pub HaveNested : Mapped → Mapped → Type 0
HaveNested m n = (d : List ℕ) × (e : List ℕ) × (m.destination ≡ Some d) × (n.destination ≡ Some e) × AreNested d e

-- one of the mappings is sound, and its destination is a directory of this one's, or is in that
abbrev pub IsObstructed : List Mapped → Mapped → Type 0
IsObstructed l m = (n : Mapped) × Contains l n × IsSound n × HaveNested m n

-- the verdict on a mapping of the specs that map refs of the remote, where these and the configured ones make all the
-- mappings
abbrev pub HasVerdict : List Mapped → List Mapped → Mapped → Verdict → Type 0
HasVerdict l all m verdict.Written = IsSound m × ¬ (IsContested l m) × ¬ (IsObstructed all m)
HasVerdict l all m (verdict.LeftOut side) = IsUnwritableAt side m
HasVerdict l all m verdict.InConflict = IsSound m × IsContested l m
HasVerdict l all m verdict.Overruled = ⊥
HasVerdict l all m verdict.DirectoryConflict = IsSound m × ¬ (IsContested l m) × IsObstructed all m

-- and on a mapping of the configured specs that are applied besides: what is fetched to its destination wins
abbrev pub HasSecondVerdict : List Mapped → List Mapped → List Mapped → Mapped → Verdict → Type 0
HasSecondVerdict firsts l all m verdict.Written = IsSound m × ¬ (IsTakenOver firsts m) × ¬ (IsContested l m)
    × ¬ (IsObstructed all m)
HasSecondVerdict firsts l all m (verdict.LeftOut side) = IsUnwritableAt side m
HasSecondVerdict firsts l all m verdict.InConflict = IsSound m × ¬ (IsTakenOver firsts m) × IsContested l m
HasSecondVerdict firsts l all m verdict.Overruled = IsSound m × IsTakenOver firsts m
HasSecondVerdict firsts l all m verdict.DirectoryConflict = IsSound m × ¬ (IsTakenOver firsts m) × ¬ (IsContested l m)
    × IsObstructed all m

-- the origin is that of the spec at the index of the mapping
abbrev pub HasOrigin : List Asked → Mapped → Origin → Type 0
HasOrigin asked m o = (a : Asked) × (slice_get asked m.spec ≡ Some a) × (a.origin ≡ o)

-- what is planned for a mapping of the first list
pub record IsPlanned (asked : List Asked) (firsts seconds : List Mapped) (m : Mapped) (p : Planned) : Type 0 where
  pub source : p.source ≡ m.source
  pub item : p.item ≡ m.item
  pub destination : p.destination ≡ m.destination
  pub origin : HasOrigin asked m p.origin
  pub verdict : HasVerdict firsts (firsts ++ seconds) m p.verdict

-- what is planned for one of the second list: without a destination it would do nothing, and its pair may be in the
-- first
pub record IsPlannedBesides (asked : List Asked) (indexes : List ℕ) (firsts seconds : List Mapped) (m : Mapped)
    (p : Planned) : Type 0 where
  pub updates : IsSome m.destination
  pub new : ¬ (HasPair firsts m)
  pub source : p.source ≡ m.source
  pub item : MatchOption m.item (p.item ≡ None) (λ j. slice_get indexes j ≡ p.item)
  pub destination : p.destination ≡ m.destination
  pub origin : HasOrigin asked m p.origin
  pub verdict : HasSecondVerdict firsts seconds (firsts ++ seconds) m p.verdict

-- a merge ref may be missing
abbrev pub MayBeMissing : Origin → Type 0
MayBeMissing (origin.Merge k) = Unit {0}
MayBeMissing (origin.Given k) = ⊥
MayBeMissing (origin.Configured k) = ⊥
MayBeMissing origin.Default = ⊥
MayBeMissing origin.AllTags = ⊥

-- the origins of the specs whose source no ref has, without those that may be missing
abbrev pub AreLacking : List Ref → List Asked → List Origin → Type 0
AreLacking refs asked missing = IsMadeFrom (λ k a o. (o ≡ a.origin) × ¬ (MayBeMissing o) × LacksSource refs a.reading) 0
    asked missing

-- a fetch of the plan is carried out: no source is missing, and nothing is in conflict
pub record IsCarriedOut (planned : List Planned) (missing : List Origin) : Type 0 where
  pub whole : missing ≡ []
  pub free : AllByRecursion (λ p. p.verdict ≢ verdict.InConflict) planned

-- the plan of a fetch
pub record IsPlan (wish : Wish) (refs : List Ref) (planned : List Planned) (missing : List Origin) : Type 0 where
  pub asked : List Asked
  pub firsts : List Mapped
  pub tracking : List Asked
  pub indexes : List ℕ
  pub seconds : List Mapped
  pub before : List Planned
  pub behind : List Planned
  pub are_asked : AreAsked wish refs asked
  pub are_firsts : AreMapped asked refs firsts
  pub are_seconds : IsTracked wish refs tracking indexes seconds
  pub are_before : IsMadeFrom (λ k m p. IsPlanned asked firsts seconds m p) 0 firsts before
  pub are_behind : IsMadeFrom (λ k m p. IsPlannedBesides tracking indexes firsts seconds m p) 0 seconds behind
  pub all : planned ≡ before ++ behind
  pub lacks : AreLacking refs asked missing
