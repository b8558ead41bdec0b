use Rattle.gix_refspec_diff.proofs.Common.{map, reading_of, take}
use Rattle.gix_refspec_lint.proofs.Common.{IsMadeFrom}
use Rattle.gix_refspec_diff.proofs.lemmas.LackLemmas.{IsLackedAt}

abbrev pub invariant-loop-index : Rattle.gix_refspec_diff.proofs.missing.lacked_alone.Given.invariant-loop-index
invariant-loop-index l =
    IsMadeFrom (IsLackedAt (map reading_of l.one) (map reading_of l.other)) 0 (map reading_of (take l.index l.one))
    l.lacked.items
