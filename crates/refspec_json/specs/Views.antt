-- The parts of an object as contracts read them.
use Rattle.std.specs.Prelude.{ℕ, List, codes, string_bytes}
use Rattle.refspec_json.specs.Objects.{Claimed, Warned}
use Rattle.refspec_json.specs.declared.mappings.Claim.{Claim}
use Rattle.refspec_json.specs.declared.specs.SpecKind.{SpecKind}
use Rattle.refspec_json.specs.declared.specs.SpecKind.TheVariants as kind
use Rattle.refspec_json.specs.declared.warnings.WarnedSpec.{WarnedSpec}

-- the member `kind` of a spec
abbrev pub kind_name : SpecKind → List ℕ
kind_name kind.Canonical = codes "canonical"
kind_name kind.Meaning = codes "meaning"
kind_name kind.Good = codes "good"

-- the source, the spec and the origin of a claim
abbrev pub claim_texts : Claim → Claimed
claim_texts c = record { source = string_bytes c.source; spec = string_bytes c.spec; origin = string_bytes c.origin }

-- the location and the text of a spec that a warning is about
abbrev pub warned_texts : WarnedSpec → Warned
warned_texts w = record { location = string_bytes w.location; text = string_bytes w.text }
