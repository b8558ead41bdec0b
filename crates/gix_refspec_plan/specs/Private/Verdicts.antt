-- What becomes of updates, and how that is found. Only private functions use these definitions.
use Rattle.std.specs.Prelude.{◌≡◌, ◌⊎◌, ◌↔◌, ◌<◌, ◌+◌, ℕ, Bool, List, [], ◌∷◌, ◌++◌, Option, None, Some, is_some}
use Rattle.std.specs.Prelude.{length, slice_index_or, unwrap_or, true, false, IsTrue}
use Rattle.std.specs.Borrow.{Bor}
use Rattle.std.specs.BTreeMap.{BTreeMap, get_by}
use Rattle.std.specs.Cmp.Lexicographic.{slice_cmp}
use Rattle.std.specs.Ordering.{nat_cmp}
use Rattle.std.specs.List.{AllByRecursion, AllZip, Any, Contains}
use Rattle.gix_refspec_plan.specs.declared.Origin.{Origin}
use Rattle.gix_refspec_plan.specs.declared.Verdict.{Verdict}
use Rattle.gix_refspec_match.specs.Matching.Lists.{IsMadeFrom}
use Rattle.gix_refspec_match.specs.Matching.Mappings.{AreApart, HasPair, Mapped}
use Rattle.gix_refspec_match.specs.Private.Kept.{IsFlagged}
use Rattle.gix_refspec_plan.specs.Matching.Plan.{AreNested, Asked, HasVerdict, IsPlanned, IsPlannedBesides, IsSound}
use Rattle.gix_refspec_plan.specs.Matching.Plan.{Planned}

-- the mappings are of these specs, and no two have the same pair
pub record AreMappings (asked : List Asked) (l : List Mapped) : Type 0 where
  pub fit : AllByRecursion (λ m. m.spec < length asked) l
  pub apart : AreApart l

-- ---- which destinations are written

-- the mapping is sound and has the destination d
abbrev pub WritesTo : List ℕ → Mapped → Type 0
WritesTo d m = IsSound m × (m.destination ≡ Some d)

-- two elements of the list are as P says
abbrev pub HasTwo : {X : Type 0} → (X → Type 0) → List X → Type 0
HasTwo P [] = ⊥
HasTwo P (x ∷ xs) = (P x × Any P xs) ⊎ HasTwo P xs

-- no sound mapping has the destination; or one has, and the flag says whether several have
abbrev pub IsCount : List Mapped → List ℕ → Option Bool → Type 0
IsCount l d None = ¬ (Any (WritesTo d) l)
IsCount l d (Some several) = Any (WritesTo d) l × (IsTrue several ↔ HasTwo (WritesTo d) l)

-- so it is with each destination that is looked up
abbrev pub CountDestinations : List Mapped → BTreeMap (Bor (List ℕ)) Bool → Type 0
CountDestinations l counts = (d : List ℕ) → IsCount l d (get_by (λ k. slice_cmp nat_cmp d k.now) counts)

-- exactly the destinations that several sound mappings have are looked up as true
abbrev pub TellContested : List Mapped → BTreeMap (Bor (List ℕ)) Bool → Type 0
TellContested l contested = (d : List ℕ) → (unwrap_or (get_by (λ k. slice_cmp nat_cmp d k.now) contested) false ≡ true)
    ↔ HasTwo (WritesTo d) l

-- a sound mapping has the destination d, and one has a destination that is a directory of d, or is in d
abbrev pub IsNestedAmong : List Mapped → List ℕ → Type 0
IsNestedAmong l d = Any (WritesTo d) l × ((e : List ℕ) × Any (WritesTo e) l × AreNested d e)

-- exactly these destinations are in the map
abbrev pub TellNested : List Mapped → BTreeMap (Bor (List ℕ)) (Bor (List ℕ)) → Type 0
TellNested l nested = (d : List ℕ) → IsTrue (is_some (get_by (λ k. slice_cmp nat_cmp d k.now) nested))
    ↔ IsNestedAmong l d

-- the names are the destinations of the sound mappings
abbrev pub AreSoundDestinations : List Mapped → List (List ℕ) → Type 0
AreSoundDestinations l names = (d : List ℕ) → Contains names d ↔ Any (WritesTo d) l

-- each mapping has the verdict at its place
abbrev pub AreVerdicts : List Mapped → List Mapped → List Verdict → Type 0
AreVerdicts l seconds verdicts = AllZip (HasVerdict l (l ++ seconds)) l verdicts

-- ---- the updates

-- behind the first mappings those whose pair is among these are flagged
abbrev pub FlagKnown : List Mapped → List Mapped → List Bool → Type 0
FlagKnown firsts l flags = (k : ℕ) (d : Mapped) → k < length l → IsFlagged flags (length firsts + k) ↔ HasPair firsts
    (slice_index_or l k d)

-- the update by a mapping, with these parts
abbrev pub planned_by : Mapped → Option ℕ → Origin → Verdict → Planned
planned_by m item origin verdict = record {
  source = m.source;
  item = item;
  destination = m.destination;
  origin =
      origin;
  verdict = verdict;
}

-- the updates of the first list of mappings
abbrev pub AreFirst : List Asked → List Mapped → List Mapped → List Planned → Type 0
AreFirst asked firsts seconds planned = IsMadeFrom (λ k m p. IsPlanned asked firsts seconds m p) 0 firsts planned

-- and those of the second
abbrev pub AreSecond : List Asked → List ℕ → List Mapped → List Mapped → List Planned → Type 0
AreSecond tracking indexes firsts seconds planned =
    IsMadeFrom (λ k m p. IsPlannedBesides tracking indexes firsts seconds m p) 0 seconds planned

-- the updates of both lists of mappings
pub record AreJudged (asked : List Asked) (firsts : List Mapped) (tracking : List Asked) (indexes : List ℕ)
    (seconds : List Mapped) (planned : List Planned) : Type 0 where
  pub before : List Planned
  pub behind : List Planned
  pub are_before : AreFirst asked firsts seconds before
  pub are_behind : AreSecond tracking indexes firsts seconds behind
  pub all : planned ≡ before ++ behind
