use Rattle.gix_refspec_lint.proofs.Common.{◌++◌, List, map, take, AllByRecursion, bstring_bytes, Reading, IsGroupOf}
use Rattle.gix_refspec_lint.proofs.Common.{NoneAt}

abbrev pub invariant-loop-word-2 : Rattle.gix_refspec_lint.proofs.conflicts.conflict_among.Given.invariant-loop-word-2
invariant-loop-word-2 l =
    (g : List Reading) → IsGroupOf g l.group
    → AllByRecursion (λ w. NoneAt g l.first l.second (l.common.prefix.now ++ (w ++ l.common.suffix.now)))
    (map bstring_bytes (take l.word-index l.word-items))
