-- Laws of validation: it has one result, and the same one for a copy of an outcome. They follow from the definitions in
-- Validation and Group, and add no rule.
use Rattle.std.specs.Prelude.{◌≡◌, ℕ, List, map}
use Rattle.gix_refspec.specs.declared.match_group.types.Outcome.{Outcome}
use Rattle.gix_refspec_text.specs.Specs.Reading.{Reading}
use Rattle.gix_refspec_match.specs.Matching.Mappings.{Mapped}
use Rattle.gix_refspec_match.specs.Views.Mapping.{mapped_of, AreMappingCopies}
use Rattle.gix_refspec.specs.Views.Group.{readings_of}
use Rattle.gix_refspec.specs.Matching.Validation.{Conflict, AreConflicts, AreSurvivors, Removed, AreFixes}

-- the mappings l of the group g and the mappings m of the group h have the same conflicts, survivors and fixes
pub record ValidateAlike (g : List Reading) (l : List Mapped) (h : List Reading) (m : List Mapped) : Type 0 where
  pub conflicts : (cs other : List Conflict) → AreConflicts g l cs → AreConflicts h m other → cs ≡ other
  pub survivors : (rest other : List Mapped) → AreSurvivors l rest → AreSurvivors m other → rest ≡ other
  pub fixes : (fixes other : List Removed) → AreFixes g l fixes → AreFixes h m other → fixes ≡ other

-- mappings have at most one list of conflicts, one of survivors and one of fixes
abbrev pub OneValidation : List Reading → List Mapped → Type 0
OneValidation g l = ValidateAlike g l g l

-- the copy has the specs of the outcome, and copies of its mappings in order
pub record IsOutcomeCopy {forward : ℕ} (o copy : Outcome forward) : Type 0 where
  pub specs : copy.group.specs.items ≡ o.group.specs.items
  pub mappings : AreMappingCopies o.mappings.items copy.mappings.items

-- both have the same readings and the same mappings as plain data, and validate alike
pub record HaveSameData {forward : ℕ} (o copy : Outcome forward) : Type 0 where
  pub readings : readings_of copy.group ≡ readings_of o.group
  pub mappings : map mapped_of copy.mappings.items ≡ map mapped_of o.mappings.items
  pub validated : ValidateAlike (readings_of o.group) (map mapped_of o.mappings.items) (readings_of copy.group)
      (map mapped_of copy.mappings.items)

-- an outcome and its copy have the same data
abbrev pub CopiedOutcome : {forward : ℕ} → Outcome forward → Outcome forward → Type 0
CopiedOutcome o copy = IsOutcomeCopy o copy → HaveSameData o copy
