use Rattle.gix_refspec_match.proofs.Common.{take, FitsName}
use Rattle.std.proofs.Common.{All}

abbrev pub invariant-loop-pattern :
    Rattle.gix_refspec_match.proofs.exclusions.Exclusions.spec_of.Given.invariant-loop-pattern
invariant-loop-pattern l = All (λ p. ¬ (FitsName p l.name)) (take l.pattern-index l.pattern-items)
