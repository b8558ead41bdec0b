-- The result of a validation as plain data, for contracts.
use Rattle.std.specs.Prelude.{◌≡◌, List, map}
use Rattle.bstr.specs.Owned.{bstring_bytes}
use Rattle.gix_refspec.specs.declared.match_group.types.Outcome.{Outcome}
use Rattle.gix_refspec.specs.declared.match_group.validate.Error.{Error}
use Rattle.gix_refspec.specs.declared.match_group.validate.Issue.{Issue}
use Rattle.gix_refspec.specs.declared.match_group.validate.Issue.TheVariants as issue
use Rattle.gix_refspec.specs.declared.match_group.validate.Fix.{Fix}
use Rattle.gix_refspec.specs.declared.match_group.validate.Fix.TheVariants as fix
use Rattle.gix_refspec.specs.declared.match_group.validate.Refusal.{Refusal}
use Rattle.gix_refspec.specs.declared.match_group.validate.Refusal.TheVariants as refusal
use Rattle.gix_refspec_text.specs.Views.Spec.{owned_reading_of}
use Rattle.gix_refspec_match.specs.Matching.Mappings.{Mapped}
use Rattle.gix_refspec_match.specs.Views.Mapping.{mapped_of, start_of}
use Rattle.gix_refspec_text.specs.Specs.Meaning.{meaning_of}
use Rattle.gix_refspec.specs.Matching.Validation.{Conflict, Removed}

-- an outcome of matching from left to right
abbrev pub ForwardOutcome : Type 0
ForwardOutcome = Outcome 1

-- the mappings of an outcome as plain data
abbrev pub mappings_of : ForwardOutcome → List Mapped
mappings_of o = map mapped_of o.mappings.items

-- the conflict that an issue reports
abbrev pub conflict_of : Issue → Conflict
conflict_of (issue.Conflict d sources texts) =
    record {
      destination = bstring_bytes d;
      sources = map start_of sources.items;
      texts =
          map bstring_bytes texts.items;
    }

-- the conflicts that an error reports
abbrev pub conflicts_of : Error → List Conflict
conflicts_of e = map conflict_of e.issues.items

-- the mapping that a fix removed
abbrev pub removed_of : Fix → Removed
removed_of (fix.MappingWithPartialDestinationRemoved n s) =
    record { destination = bstring_bytes n; spec = owned_reading_of s }

-- two fixes removed mappings with the same destination, whose specs mean the same
pub record IsSameFix (a b : Fix) : Type 0 where
  pub destination : (removed_of a).destination ≡ (removed_of b).destination
  pub spec : meaning_of (removed_of a).spec ≡ meaning_of (removed_of b).spec

-- if a validation fails because of conflicts, P holds of them
abbrev pub IfConflicts : Refusal → (List Conflict → Type 0) → Type 0
IfConflicts (refusal.Conflicts e) P = P (conflicts_of e)
IfConflicts (refusal.Memory o) P = Unit {0}

-- if a validation fails because memory ran out, P holds of the returned outcome
abbrev pub IfMemory : Refusal → (ForwardOutcome → Type 0) → Type 0
IfMemory (refusal.Conflicts e) P = Unit {0}
IfMemory (refusal.Memory o) P = P o
