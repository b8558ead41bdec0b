use Rattle.std.proofs.Common.{◌≡◌, ◌++◌, map, flat_map}
use Rattle.refspec_map.specs.Plan.{claim_text}
use Rattle.refspec_map.proofs.PlanLemmas.{claim_of}
use Rattle.refspec_map.proofs.output.write_claims.Given as goal

-- the claims so far were appended to the old output
abbrev pub invariant-loop-source : goal.invariant-loop-source
invariant-loop-source l = l.output.items ≡ l.fn.output.items ++ flat_map claim_text (map claim_of l.yielded)
