use Rattle.gix_refspec_lint.proofs.Common.{map, take, AllByRecursion, reading_of}
use Rattle.gix_refspec_lint.specs.Matching.Removal.{HasDestination}

abbrev pub invariant-loop-value : Rattle.gix_refspec_lint.proofs.removal.follow_tags.Given.invariant-loop-value
invariant-loop-value l = AllByRecursion (λ r. ¬ (HasDestination r)) (map reading_of (take l.value-index l.values))
