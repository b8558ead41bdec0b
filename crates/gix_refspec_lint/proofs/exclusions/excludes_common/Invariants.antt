use Rattle.gix_refspec_lint.proofs.Common.{◌++◌, map, take, AllByRecursion, bstring_bytes, reading_of, name}
use Rattle.gix_refspec_lint.proofs.Common.{ExcludesFrom}

abbrev pub invariant-loop-word : Rattle.gix_refspec_lint.proofs.exclusions.excludes_common.Given.invariant-loop-word
invariant-loop-word l =
    AllByRecursion
    (λ w. ¬ (ExcludesFrom (reading_of l.negative) (reading_of l.spec)
    (name (l.common.prefix.now ++ (w ++ l.common.suffix.now)))))
    (map bstring_bytes (take l.word-index l.word-items))
