-- Laws of fates: that they say what is mapped and what a plan writes. They follow from the definitions in Why, Hits and
-- Plan, and add no rule.
use Rattle.std.specs.Prelude.{◌≡◌, ◌≢◌, ◌↔◌, false, ℕ, List, [], IsSome, None, Option}
use Rattle.std.specs.List.{AllZip, Contains}
use Rattle.gix_refspec_plan.specs.declared.Origin.{Origin}
use Rattle.gix_refspec_plan.specs.declared.Verdict.TheVariants as verdict
use Rattle.gix_refspec_text.specs.Specs.Reading.{Reading}
use Rattle.gix_refspec_text.specs.Matching.Match.{Ref}
use Rattle.gix_refspec_match.specs.Matching.Mappings.{HasPair, Mapped, name}
use Rattle.gix_refspec_match.specs.Matching.Hits.{AreKeptForward}
use Rattle.gix_refspec_plan.specs.Matching.Plan.{IsCompleted, IsPlan, Planned, Wish}
use Rattle.gix_refspec_why.specs.declared.Fate.{Fate}
use Rattle.gix_refspec_why.specs.declared.Fate.TheVariants as fate
use Rattle.gix_refspec_why.specs.Matching.Why.{Effect, IsExplained}

-- a fetch of what is configured alone
abbrev pub configured_alone : List Reading → Wish
configured_alone g = record { given = []; configured = g; merges = []; tags = false }

-- the plan writes the ref n of the remote, wherever to
abbrev pub WritesFrom : List Planned → List ℕ → Type 0
WritesFrom planned n = (p : Planned) × Contains planned p × (p.source ≡ name n) × (p.verdict ≡ verdict.Written)

-- the ref is listed, and some spec writes it
abbrev pub IsWrittenBySome : Option ℕ → List Effect → Type 0
IsWrittenBySome index effects = IsSome index × ((e : Effect) × Contains effects e × (e.fate ≡ fate.Written))

-- where some spec is configured, the plan of a fetch of what is configured writes the ref exactly if it is listed and
-- some
-- spec has the fate that it is written
abbrev pub WrittenExactly : List Reading → List Ref → List ℕ → Type 0
WrittenExactly g refs n = (planned : List Planned) (missing : List Origin) (index : Option ℕ) (effects : List Effect)
    → g ≢ [] → IsPlan (configured_alone g) refs planned missing → IsExplained g refs n index effects
    → WritesFrom planned n ↔ IsWrittenBySome index effects

-- the spec maps the ref, and none excludes it
abbrev pub IsMapped : Fate → Type 0
IsMapped (fate.Unmatched m) = ⊥
IsMapped (fate.Excludes word) = ⊥
IsMapped (fate.Excluded by) = ⊥
IsMapped fate.InvalidName = Unit {0}
IsMapped fate.InvalidDestination = Unit {0}
IsMapped (fate.Duplicate j) = Unit {0}
IsMapped (fate.InConflict rival) = Unit {0}
IsMapped (fate.DirectoryConflict rival) = Unit {0}
IsMapped fate.Written = Unit {0}

-- the mappings of the readings that are kept from left to right, with the destinations that a fetch completes
pub record AreCompletedMappings (g : List Reading) (refs : List Ref) (list : List Mapped) : Type 0 where
  pub completed : List Reading
  pub are : AllZip IsCompleted g completed
  pub kept : AreKeptForward completed refs list

-- of the mappings from left to right with the destinations that a fetch completes one is kept from the ref n to the
-- destination d, exactly if the ref is listed and some spec maps it there while none excludes it
abbrev pub MappedExactly : List Reading → List Ref → List ℕ → Type 0
MappedExactly g refs n = (kept : List Mapped) (index : Option ℕ) (effects : List Effect) (d : Option (List ℕ))
    → AreCompletedMappings g refs kept → IsExplained g refs n index effects
    → HasPair kept (record { item = None; source = name n; destination = d; spec = 0 })
    ↔ (IsSome index × ((e : Effect) × Contains effects e × IsMapped e.fate × (e.destination ≡ d)))
