use Rattle.gix_refspec_lint.proofs.Common.{map, take, reading_of}
use Rattle.gix_refspec_lint.specs.Private.Removals.{ArePositives}

abbrev pub invariant-loop-value : Rattle.gix_refspec_lint.proofs.removal.positives.Given.invariant-loop-value
invariant-loop-value l = ArePositives (map reading_of (take l.value-index l.values)) (map reading_of l.positives.items)
