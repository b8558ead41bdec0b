use Rattle.gix_refspec_lint.proofs.Common.{◌++◌, List, map, take, AllByRecursion, bstring_bytes, Reading, name}
use Rattle.gix_refspec_lint.proofs.Common.{Explains, IsShown, IsGroupOf}

abbrev pub invariant-loop-word : Rattle.gix_refspec_lint.proofs.idle.idle_by_words.Given.invariant-loop-word
invariant-loop-word l =
    (g : List Reading) → IsGroupOf g l.group
    → AllByRecursion (λ w. Explains g l.others l.index (name (l.prefix ++ (w ++ l.suffix))) l.reason)
    (map bstring_bytes (take l.word-index l.word-items)) × IsShown g l.others l.index l.reason
