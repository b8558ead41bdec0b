use Rattle.gix_refspec_lint.proofs.Common.{◌++◌, map, take, AllByRecursion, bstring_bytes}
use Rattle.gix_refspec_lint.specs.Private.Removals.{IsSameAlone, all_of, rest_of}

abbrev pub invariant-loop-word : Rattle.gix_refspec_lint.proofs.removal.pruning.differs_among.Given.invariant-loop-word
invariant-loop-word l =
    AllByRecursion
    (λ w. IsSameAlone (all_of l.lists) (rest_of l.lists) (l.common.prefix.now ++ (w ++ l.common.suffix.now)))
    (map bstring_bytes (take l.word-index l.lists.words.now))
