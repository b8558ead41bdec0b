use Rattle.gix_refspec_lint.proofs.Common.{List, map, take, AllByRecursion, Reading, start_of, Explains, IsShown}
use Rattle.gix_refspec_lint.proofs.Common.{IsGroupOf}

abbrev pub invariant-loop-source : Rattle.gix_refspec_lint.proofs.idle.idle_by_sources.Given.invariant-loop-source
invariant-loop-source l =
    (g : List Reading) → IsGroupOf g l.group → AllByRecursion (λ s. Explains g l.others l.index s l.reason)
    (map start_of (take l.source-index l.source-items)) × IsShown g l.others l.index l.reason
