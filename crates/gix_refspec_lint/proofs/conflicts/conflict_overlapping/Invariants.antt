use Rattle.gix_refspec_lint.proofs.Common.{List, take, Reading, HaveCommon, IsGroupOf, NoneAt, Fails}
use Rattle.gix_refspec_lint.proofs.lemmas.RunLemmas.{AreSoFar}

abbrev pub invariant-loop-shared :
    Rattle.gix_refspec_lint.proofs.conflicts.conflict_overlapping.Given.invariant-loop-shared
invariant-loop-shared l =
    (g : List Reading) → IsGroupOf g l.group → (have : HaveCommon l.group l.first l.second l.common)
    → AreSoFar (NoneAt g l.first l.second) (Fails g have.one.reading have.other.reading) l.common.prefix.now
    l.common.suffix.now (take l.shared-index l.shared-items) l.run
