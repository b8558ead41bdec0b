use Rattle.gix_refspec_lint.proofs.Common.{List, map, take, AllByRecursion, Reading, reading_of, ExcludesSome}
use Rattle.gix_refspec_lint.proofs.Common.{IsGroupOf}

abbrev pub invariant-loop-spec : Rattle.gix_refspec_lint.proofs.exclusions.excludes_any.Given.invariant-loop-spec
invariant-loop-spec l = (g : List Reading) → IsGroupOf g l.group
    → AllByRecursion (λ c. ¬ (ExcludesSome (reading_of l.negative) c))
    (map reading_of (take l.spec-index l.group.specs.now))
