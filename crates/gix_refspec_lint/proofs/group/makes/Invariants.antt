use Rattle.gix_refspec_lint.proofs.Common.{map, option_map, take, AllByRecursion, bstr_bytes, IsSamePair, mapped_of}
use Rattle.gix_refspec_lint.proofs.Common.{start_of, pair_of}

abbrev pub invariant-loop-mapping : Rattle.gix_refspec_lint.proofs.group.makes.Given.invariant-loop-mapping
invariant-loop-mapping l =
    AllByRecursion (λ m. ¬ (IsSamePair m (pair_of (start_of l.source) (option_map bstr_bytes l.destination))))
    (map mapped_of (take l.mapping-index l.mapping-items))
