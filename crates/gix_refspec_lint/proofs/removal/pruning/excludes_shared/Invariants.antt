use Rattle.gix_refspec_lint.proofs.Common.{◌++◌, map, take, AllByRecursion, bstring_bytes}
use Rattle.gix_refspec_lint.specs.Private.Removals.{IsSameFrom, all_of, rest_of}

abbrev pub invariant-loop-word :
    Rattle.gix_refspec_lint.proofs.removal.pruning.excludes_shared.Given.invariant-loop-word
invariant-loop-word l =
    AllByRecursion (λ w. IsSameFrom (all_of l.lists) (rest_of l.lists) l.near.0.now l.near.1.now l.far.0.now l.far.1.now
    (l.taken.prefix.now ++ (w ++ l.taken.suffix.now))) (map bstring_bytes (take l.word-index l.lists.words.now))
