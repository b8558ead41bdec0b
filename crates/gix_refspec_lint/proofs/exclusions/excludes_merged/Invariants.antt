use Rattle.gix_refspec_lint.proofs.Common.{map, take, [], ◌∷◌, AllByRecursion, reading_of, start_of, IsSourceExcluded}

abbrev pub invariant-loop-source : Rattle.gix_refspec_lint.proofs.exclusions.excludes_merged.Given.invariant-loop-source
invariant-loop-source l =
    AllByRecursion (λ s. ¬ (IsSourceExcluded (reading_of l.negative ∷ []) s))
    (map start_of (take l.source-index l.merged))
