use Rattle.gix_refspec_lint.proofs.Common.{map, take, AllByRecursion, IsRefName, IsValidSource, start_of, refs_of}
use Rattle.gix_refspec_lint.specs.Matching.Removal.{IsStaleByOne}
use Rattle.gix_refspec_lint.specs.Private.Removals.{all_of, rest_of}

abbrev pub invariant-loop-source : Rattle.gix_refspec_lint.proofs.removal.pruning.differs_at.Given.invariant-loop-source
invariant-loop-source l =
    AllByRecursion (λ s. IsValidSource s → IsRefName l.local
    → ¬ (IsStaleByOne (all_of l.lists) (rest_of l.lists) (refs_of s) l.local))
    (map start_of (take l.source-index l.sources))
