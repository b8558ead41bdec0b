use Rattle.gix_refspec_lint.proofs.Common.{List, map, take, AllByRecursion, Reading, reading_of, start_of, IsGroupOf}
use Rattle.gix_refspec_lint.specs.Private.Removals.{FetchesSource}

abbrev pub invariant-loop-source : Rattle.gix_refspec_lint.proofs.removal.fetches_named.Given.invariant-loop-source
invariant-loop-source l = (g : List Reading) → IsGroupOf g l.group
    → AllByRecursion (λ s. ¬ (FetchesSource g (reading_of l.spec) s))
    (map start_of (take l.source-index l.source-items))
