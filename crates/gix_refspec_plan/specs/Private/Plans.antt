-- How a plan is made. Only private functions and those of `mapped` use these definitions.
use Rattle.std.specs.Prelude.{◌≡◌, ◌⊎◌, ◌↔◌, ◌<◌, ℕ, Bool, List, ◌++◌, Option, None, Some, length, slice_index_or, take}
use Rattle.std.specs.List.{AllZip, Contains}
use Rattle.gix_refspec_plan.specs.declared.Origin.{Origin}
use Rattle.gix_refspec_plan.specs.declared.Origin.TheVariants as origin
use Rattle.gix_refspec_plan.specs.declared.specs.Part.{Part}
use Rattle.gix_refspec_plan.specs.declared.specs.Part.TheVariants as part
use Rattle.gix_refspec_plan.specs.declared.specs.SpecList.{SpecList}
use Rattle.gix_refspec_plan.specs.declared.specs.SpecList.TheVariants as list
use Rattle.gix_refspec_text.specs.Texts.Bytes.{star}
use Rattle.gix_refspec_text.specs.Texts.Words.{Lacks}
use Rattle.gix_refspec_text.specs.Texts.Name.{HasStar}
use Rattle.gix_refspec_text.specs.Specs.Reading.{Reading, Negative}
use Rattle.gix_refspec_text.specs.Specs.Grammar.{IsPositive}
use Rattle.gix_refspec_text.specs.Matching.Side.{written_name_of}
use Rattle.gix_refspec_text.specs.Matching.Match.{Ref}
use Rattle.gix_refspec_match.specs.Matching.Lists.{IsMadeFrom}
use Rattle.gix_refspec_match.specs.Matching.Mappings.{Mapped, name}
use Rattle.gix_refspec_match.specs.Private.Kept.{IsFlagged}
use Rattle.gix_refspec_match.specs.Matching.Hits.{AreKeptForward}
use Rattle.gix_refspec_plan.specs.Matching.Plan.{Covers, IsCompleted, IsSound, IsTakenAt}

-- the destination that a spec gets; none where it has none or keeps its own
abbrev pub IsNewDestination : Option (List ℕ) → Option (List ℕ) → Type 0
IsNewDestination None n = n ≡ None
IsNewDestination (Some d) None = HasStar d ⊎ (Lacks star d × (written_name_of d ≡ d))
IsNewDestination (Some d) (Some n) = Lacks star d × (n ≡ written_name_of d)

-- each spec with that destination
abbrev pub AreNewDestinations : List Reading → List (Option (List ℕ)) → Type 0
AreNewDestinations g names = AllZip (λ r n. IsNewDestination r.destination n) g names

-- the mappings of readings over the refs, with completed destinations
pub record AreMappedBy (g : List Reading) (refs : List Ref) (mapped : List Mapped) : Type 0 where
  pub completed : List Reading
  pub are : AllZip IsCompleted g completed
  pub kept : AreKeptForward completed refs mapped

-- the reading is in a part of a list
abbrev pub IsIn : Part → Reading → Type 0
IsIn part.All r = Unit {0}
IsIn part.Positive r = IsPositive r.mode
IsIn part.Negative r = r.mode ≡ Negative

-- the origin of the spec at an index of a list
abbrev pub origin_in : SpecList → ℕ → Origin
origin_in list.Given k = origin.Given k
origin_in list.Configured k = origin.Configured k

-- the names are those of the refs of sound mappings, in order
abbrev pub AreSoundNames : List Mapped → List (List ℕ) → Type 0
AreSoundNames mapped names = IsMadeFrom (λ k m n. IsSound m × (m.source ≡ name n)) 0 mapped names

-- and then those of the merged refs
abbrev pub AreNames : List (List ℕ) → List Mapped → List (List ℕ) → Type 0
AreNames merges mapped names = (sources : List (List ℕ)) × AreSoundNames mapped sources × (names ≡ sources ++ merges)

-- the merged refs that sound mappings are of, or that are given before, are flagged
abbrev pub FlagCovered : List (List ℕ) → List Mapped → List Bool → Type 0
FlagCovered merges mapped flags = (k : ℕ) (d : List ℕ) → k < length merges → IsFlagged flags k
    ↔ (Covers mapped (slice_index_or merges k d) ⊎ Contains (take k merges) (slice_index_or merges k d))

-- of so many items those of sound mappings are flagged
pub record FlagsTaken (mapped : List Mapped) (len : ℕ) (flags : List Bool) : Type 0 where
  pub each : (k : ℕ) → k < len → IsFlagged flags k ↔ IsTakenAt mapped k
