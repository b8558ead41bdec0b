use Rattle.gix_refspec_diff.proofs.Common.{AllByRecursion, IsGroupOf, List, Reading, map, start_of, take}
use Rattle.gix_refspec_diff.specs.Matching.Difference.{MergesAlone}

abbrev pub invariant-loop-source : Rattle.gix_refspec_diff.proofs.merged.merges_alone.Given.invariant-loop-source
invariant-loop-source l = (g h : List Reading) → IsGroupOf g l.one → IsGroupOf h l.other
    → AllByRecursion (λ s. ¬ (MergesAlone g h s)) (map start_of (take l.source-index l.source-items))
