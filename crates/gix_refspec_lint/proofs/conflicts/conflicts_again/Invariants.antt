use Rattle.gix_refspec_lint.proofs.Common.{List, map, take, Reading, IsMadeFrom, IsExample, HaveParts, IsGroupOf}
use Rattle.gix_refspec_lint.proofs.Common.{example_of}

abbrev pub invariant-loop-second : Rattle.gix_refspec_lint.proofs.conflicts.conflicts_again.Given.invariant-loop-second
invariant-loop-second l = (g : List Reading) → IsGroupOf g l.group → HaveParts l.group.specs.now l.known.parts.now
    → IsMadeFrom (λ n s e. IsExample g l.first s e) 0 (take l.second-index l.seconds) (map example_of l.found.items)
