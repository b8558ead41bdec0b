use Rattle.std.proofs.Common.{◌≡◌, map, take}
use Rattle.serde_json.specs.View.{view}
use Rattle.refspec_json.specs.Objects.{warned_object}
use Rattle.refspec_json.specs.Views.{warned_texts}
use Rattle.refspec_json.proofs.warnings.WarnedSpec.array_of.Given as goal

-- the objects of the specs so far
abbrev pub invariant-loop-spec : goal.invariant-loop-spec
invariant-loop-spec l = map view l.objects.items ≡ map warned_object (map warned_texts (take l.spec-index l.specs))
