use Rattle.gix_refspec_match.proofs.{Common.IsUnflagged, lemmas.lists.ListsLemmas.KeptSoFar}

abbrev pub invariant-loop-place : Rattle.gix_refspec_match.proofs.duplicates.drop_flagged.Given.invariant-loop-place
invariant-loop-place g l = KeptSoFar (IsUnflagged l.flags) l.initial.elements.items l.elements.items l.kept l.place
