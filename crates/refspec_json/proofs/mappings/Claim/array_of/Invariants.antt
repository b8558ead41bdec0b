use Rattle.std.proofs.Common.{◌≡◌, map, take}
use Rattle.serde_json.specs.View.{view}
use Rattle.refspec_json.specs.Objects.{claim_object}
use Rattle.refspec_json.specs.Views.{claim_texts}
use Rattle.refspec_json.proofs.mappings.Claim.array_of.Given as goal

-- the objects of the claims so far
abbrev pub invariant-loop-claim : goal.invariant-loop-claim
invariant-loop-claim l = map view l.objects.items ≡ map claim_object (map claim_texts (take l.claim-index l.claims))
