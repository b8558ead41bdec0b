use Rattle.gix_refspec_match.proofs.Common.{FiltersInPlace, is_shared}

abbrev pub invariant-loop-at : Rattle.gix_refspec_match.proofs.duplicates.keep_shared.Given.invariant-loop-at
invariant-loop-at l = FiltersInPlace (is_shared l.shared l.bits) l.initial.keys.items l.keys.items l.kept l.at
