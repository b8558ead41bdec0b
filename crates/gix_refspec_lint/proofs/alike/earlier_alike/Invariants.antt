use Rattle.gix_refspec_lint.proofs.Common.{◌≡◌, length, map, reading_of}
use Rattle.gix_refspec_lint.specs.Private.Alike.{AreEarlier}

abbrev pub invariant-loop-index : Rattle.gix_refspec_lint.proofs.alike.earlier_alike.Given.invariant-loop-index
invariant-loop-index l = (length l.earlier.items ≡ l.index) × AreEarlier (map reading_of l.specs) l.earlier.items
