use Rattle.gix_refspec_lint.proofs.Common.{[], ◌∷◌, ◌++◌, map, take, AllByRecursion, bstring_bytes, name}
use Rattle.gix_refspec_lint.specs.Private.Removals.{IsSameAt, all_of, rest_of}

abbrev pub invariant-loop-word : Rattle.gix_refspec_lint.proofs.removal.pruning.word_prunes.Given.invariant-loop-word
invariant-loop-word l =
    AllByRecursion (λ w. IsSameAt (all_of l.lists) (rest_of l.lists) (l.far.0.now ++ (w ++ l.far.1.now))
    (name (l.near.0.now ++ (w ++ l.near.1.now)) ∷ [])) (map bstring_bytes (take l.word-index l.lists.words.now))
