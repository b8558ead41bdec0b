-- Laws of what specs do together. They follow from the definitions in Lint and Plan, and add no rule.
use Rattle.std.specs.Prelude.{◌≡◌, ◌≢◌, ◌<◌, ◌↔◌, ℕ, zero, suc, false, List, [], ◌∷◌, ◌++◌, Some}
use Rattle.std.specs.List.{AllByRecursion, AllZip, Any, Contains}
use Rattle.gix_refspec_plan.specs.declared.Origin.{Origin}
use Rattle.gix_refspec_plan.specs.declared.Verdict.TheVariants as verdict
use Rattle.gix_refspec_text.specs.Texts.Bytes.{head}
use Rattle.gix_refspec_text.specs.Specs.Reading.{Reading, fetched_alone}
use Rattle.gix_refspec_text.specs.Matching.Match.{Ref}
use Rattle.gix_refspec_match.specs.Matching.Mappings.{HasPair, Mapped, Source}
use Rattle.gix_refspec_match.specs.Matching.Hits.{AreKeptForward}
use Rattle.gix_refspec_match.specs.Matching.Missing.{LacksSource}
use Rattle.gix_refspec_lint.specs.Matching.Lint.{AreExamples, AreIdle, AreIdleExclusions, AreNestings, AreStorable}
use Rattle.gix_refspec_lint.specs.Matching.Lint.{AreValid, CanConflict, CanNest, Example, Fetches, IsExample}
use Rattle.gix_refspec_lint.specs.Matching.Lint.{IsNestingOf, Nesting, Unused, refs_of, tags_spec}
use Rattle.gix_refspec_plan.specs.Matching.Plan.{HaveNested, IsCompleted, IsPlan, IsSound, Planned, Wish}
use Rattle.gix_refspec.specs.Matching.RefNames.{HaveRefNames, IsRefName}
use Rattle.gix_refspec.specs.Matching.Validation.{AreConflicts, ShareDestination}

-- two specs that conflict over some refs do so over the refs of two sources
abbrev pub ConflictsShown : List Reading → Type 0
ConflictsShown g = (i j : ℕ) → i < j → CanConflict g i j → (e : Example) × IsExample g i j e

-- one of the mappings is sound, and is from this source to this destination
abbrev pub HasSound : List Mapped → Source → List ℕ → Type 0
HasSound kept s d = (m : Mapped) × Contains kept m × IsSound m × (m.source ≡ s) × (m.destination ≡ Some d)

-- over the refs of the two sources of an example alone, both of its mappings are kept, and the sources differ
abbrev pub ExamplesConflict : List Reading → Type 0
ExamplesConflict g =
    (i j : ℕ) (e : Example) → IsExample g i j e
    → (completed : List Reading) (kept : List Mapped) → AllZip IsCompleted g completed
    → AreKeptForward completed (refs_of e.one ++ refs_of e.other) kept
    → HasSound kept e.one e.destination × HasSound kept e.other e.destination × (e.one ≢ e.other)

-- over any refs that a repository can have, sound mappings that are kept and have one destination have one source
abbrev pub NeverConflicts : List Reading → Type 0
NeverConflicts g =
    (completed : List Reading) (refs : List Ref) (kept : List Mapped) → AllZip IsCompleted g completed
    → AreStorable refs → AreKeptForward completed refs kept
    → (m n : Mapped) → Contains kept m → Contains kept n → IsSound m → IsSound n → ShareDestination m n
    → m.source ≡ n.source

-- so it is if there is no example of a conflict
abbrev pub ConflictFree : List Reading → Type 0
ConflictFree g = AreExamples g [] → NeverConflicts g

-- no destination of a reading is completed: each is a pattern, is missing, or begins `refs/`
abbrev pub AreWhole : List Reading → Type 0
AreWhole g = AllByRecursion (λ r. IsCompleted r r) g

-- if there is none, and no destination is completed, `validated` finds no conflict among the mappings of `match_lhs`
-- that
-- `without_invalid_names` leaves, if none of these is to `HEAD`
abbrev pub MatchConflictFree : List Reading → Type 0
MatchConflictFree g =
    AreExamples g [] → AreWhole g
    → (refs : List Ref) (kept named : List Mapped) → AreStorable refs → AreKeptForward g refs kept
    → HaveRefNames kept named
    → AllByRecursion (λ m. m.destination ≢ Some head) named → AreConflicts g named []

-- nor is an update in conflict in a fetch of what is configured alone: the values, the merged refs, and all tags, if
-- they are
-- asked for
abbrev pub PlanConflictFree : Wish → Type 0
PlanConflictFree wish =
    AreExamples (wish.configured ++ tags_spec wish.tags) [] → wish.given ≡ []
    → (refs : List Ref) (planned : List Planned) (missing : List Origin) → AreStorable refs
    → IsPlan wish refs planned missing
    → AllByRecursion (λ p. p.verdict ≢ verdict.InConflict) planned

-- two specs of which one can write a ref in the directory of what the other writes do so over the refs of two sources
abbrev pub NestingsShown : List Reading → Type 0
NestingsShown g = (i j : ℕ) → CanNest g i j → (n : Nesting) × IsNestingOf g i j n

-- if there is no example of that, then over any refs that a repository can have, sound mappings that are kept, and of
-- which one
-- has a destination in the directory of the other's, are fetched by one spec
abbrev pub NestedByOne : List Reading → Type 0
NestedByOne g =
    AreNestings g []
    → (completed : List Reading) (refs : List Ref) (kept : List Mapped) → AllZip IsCompleted g completed
    → AreStorable refs → AreKeptForward completed refs kept
    → (m n : Mapped) → Contains kept m → Contains kept n → IsSound m → IsSound n → HaveNested m n
    → (k : ℕ) × Fetches g refs k m.source m.destination × Fetches g refs k n.source n.destination

-- the list without the element at an index
abbrev pub without : {X : Type 0} → ℕ → List X → List X
without k [] = []
without zero (x ∷ l) = l
without (suc k) (x ∷ l) = x ∷ without k l

-- the valid pairs that are kept of these readings are those that are kept of the others
abbrev pub KeepAlike : List Reading → List Reading → List Ref → Type 0
KeepAlike g h refs =
    (kept rest : List Mapped) → AreKeptForward g refs kept → AreKeptForward h refs rest → (m : Mapped) → IsSound m
    → HasPair rest m ↔ HasPair kept m

-- a source is missing
abbrev pub HasMissing : List Reading → List Ref → Type 0
HasMissing g refs = Any (LacksSource refs) g

-- over refs with valid names, the valid pairs that are kept without an idle spec are those that are kept with it; and
-- without
-- one that isn't required a source is missing exactly where one is with it
abbrev pub IdleLeftOut : List Reading → Type 0
IdleLeftOut g =
    (idle : List Unused) (u : Unused) → AreIdle g idle → Contains idle u → (refs : List Ref) → AreValid refs
    → ((completed : List Reading) → AllZip IsCompleted g completed
    → KeepAlike completed (without u.spec completed) refs)
    × (u.required ≡ false → HasMissing g refs ↔ HasMissing (without u.spec g) refs)

-- the reading is the fetch of a merged ref, as a plan has it
abbrev pub IsFetchOfMerged : List (List ℕ) → Reading → Type 0
IsFetchOfMerged merges r = (n : List ℕ) × Contains merges n × IsRefName n × (r ≡ fetched_alone n)

-- nor is an idle negative spec missed, also where merged refs are fetched
abbrev pub IdleExclusionLeftOut : List Reading → List (List ℕ) → Type 0
IdleExclusionLeftOut g merges =
    (idle : List ℕ) (k : ℕ) → AreIdleExclusions g merges idle → Contains idle k
    → (others completed : List Reading) (refs : List Ref) → AllByRecursion (IsFetchOfMerged merges) others
    → AllZip IsCompleted (g ++ others) completed
    → KeepAlike completed (without k completed) refs
