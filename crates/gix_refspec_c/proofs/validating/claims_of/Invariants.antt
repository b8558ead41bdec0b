-- of each destination so far what is known is so
use Rattle.std.proofs.Common.{map, take}
use Rattle.gix_refspec_c.specs.Validating.{AreClaims, mapped_in}
use Rattle.gix_refspec_c.proofs.validating.claims_of.Given as goal

abbrev pub invariant-loop-index : goal.invariant-loop-index
invariant-loop-index l = AreClaims (map mapped_in (take l.index l.pairs)) l.claims
