use Rattle.gix_refspec_lint.proofs.Common.{map, take, AllByRecursion, reading_of, start_of, ExcludesFrom}

abbrev pub invariant-loop-source : Rattle.gix_refspec_lint.proofs.exclusions.excludes_named.Given.invariant-loop-source
invariant-loop-source l = AllByRecursion (λ s. ¬ (ExcludesFrom (reading_of l.negative) (reading_of l.spec) s))
    (map start_of (take l.source-index l.source-items))
