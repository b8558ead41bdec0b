-- the texts before `at` were gone through
use Rattle.gix_refspec_match.proofs.lemmas.duplicates.RedundantLemmas.{HavePassed}

abbrev pub invariant-loop-at :
    Rattle.gix_refspec_match.proofs.duplicates.redundant.redundant.Given.invariant-loop-at
invariant-loop-at l = HavePassed l.texts l.placed.items l.flags.items l.at l.upper
