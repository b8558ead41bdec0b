use Rattle.gix_refspec_lint.proofs.Common.{◌++◌, drop, map, take, AllByRecursion}
use Rattle.gix_refspec_lint.specs.Private.Removals.{IsSameAlone, all_of, rest_of}

abbrev pub invariant-loop-shared :
    Rattle.gix_refspec_lint.proofs.removal.pruning.differs_overlapping.Given.invariant-loop-shared
invariant-loop-shared l = AllByRecursion (IsSameAlone (all_of l.lists) (rest_of l.lists))
    (map (λ k. l.common.prefix.now ++ drop k l.common.suffix.now) (take l.shared-index l.shared-items))
