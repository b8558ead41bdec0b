use Rattle.gix_refspec_lint.proofs.Common.{map, take, AllByRecursion, reading_of, SidesLack}

abbrev pub invariant-loop-spec : Rattle.gix_refspec_lint.proofs.letter.is_free.Given.invariant-loop-spec
invariant-loop-spec l = AllByRecursion (SidesLack l.byte) (map reading_of (take l.spec-index l.specs))
