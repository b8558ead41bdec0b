use Rattle.gix_refspec_lint.proofs.Common.{List, map, take, AllByRecursion, bstr_bytes, Reading, start_of, IsGroupOf}
use Rattle.gix_refspec_lint.proofs.lemmas.FoundLemmas.{NoConflict}
use Rattle.gix_refspec_lint.proofs.conflicts.conflict_at.Given as goal

abbrev pub invariant-loop-one : goal.invariant-loop-one
invariant-loop-one l = (g : List Reading) → IsGroupOf g l.group
    → AllByRecursion (λ s. AllByRecursion (NoConflict g l.first l.second (bstr_bytes l.destination) s)
    (map start_of l.others.items)) (map start_of (take l.one-index l.one-items))

abbrev pub invariant-loop-other : goal.invariant-loop-other
invariant-loop-other l = (g : List Reading) → IsGroupOf g l.group
    → AllByRecursion (NoConflict g l.first l.second (bstr_bytes l.destination) (start_of l.one))
    (map start_of (take l.other-index l.other-items))
