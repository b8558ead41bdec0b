use Rattle.gix_refspec_lint.proofs.Common.{◌++◌, drop, map, take, AllByRecursion}
use Rattle.gix_refspec_lint.specs.Private.Removals.{IsSameFrom, all_of, rest_of}

abbrev pub invariant-loop-shared :
    Rattle.gix_refspec_lint.proofs.removal.pruning.differs_overlapping_from.Given.invariant-loop-shared
invariant-loop-shared l =
    AllByRecursion (IsSameFrom (all_of l.lists) (rest_of l.lists) l.near.0.now l.near.1.now l.far.0.now l.far.1.now)
    (map (λ k. l.common.prefix.now ++ drop k l.common.suffix.now) (take l.shared-index l.shared-items))
