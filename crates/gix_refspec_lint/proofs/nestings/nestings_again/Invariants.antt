use Rattle.gix_refspec_lint.proofs.Common.{List, map, take, Reading, IsMadeFrom, HaveParts, IsGroupOf}
use Rattle.gix_refspec_lint.specs.Matching.Lint.{IsNesting}
use Rattle.gix_refspec_lint.specs.Views.Lint.{nesting_of}
use Rattle.gix_refspec_lint.specs.Private.Nestings.{TellWork}

abbrev pub invariant-loop-second : Rattle.gix_refspec_lint.proofs.nestings.nestings_again.Given.invariant-loop-second
invariant-loop-second l = (g : List Reading) → IsGroupOf g l.group → HaveParts l.group.specs.now l.known.parts.now
    → TellWork g l.known.works.now
    → IsMadeFrom (λ n s e. IsNesting g l.first s e) 0 (take l.second-index l.seconds) (map nesting_of l.found.items)
