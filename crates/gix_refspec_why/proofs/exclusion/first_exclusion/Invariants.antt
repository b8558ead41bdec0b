use Rattle.gix_refspec_why.proofs.Common.{map, take, AllByRecursion, IsExcludedBy, reading_of}

abbrev pub invariant-loop-spec_index :
    Rattle.gix_refspec_why.proofs.exclusion.first_exclusion.Given.invariant-loop-spec_index
invariant-loop-spec_index l = AllByRecursion (λ r. ¬ (IsExcludedBy l.name r))
    (map reading_of (take l.spec_index l.specs))
