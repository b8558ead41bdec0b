use Rattle.gix_refspec_diff.proofs.Common.{map, reading_of, take}
use Rattle.gix_refspec_diff.specs.Private.Searches.{AreTracking}

abbrev pub invariant-loop-value : Rattle.gix_refspec_diff.proofs.tracked.tracking.Given.invariant-loop-value
invariant-loop-value l = AreTracking (map reading_of (take l.value-index l.values)) (map reading_of l.kept.items)
