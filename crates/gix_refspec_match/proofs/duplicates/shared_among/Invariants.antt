use Rattle.gix_refspec_match.proofs.Common.{ℕ, ◌<◌, get_or, ◌^◌, ◌/◌, HasNumber, IsWhole, HaveSameUpper}

abbrev pub invariant-loop-key : Rattle.gix_refspec_match.proofs.duplicates.shared_among.Given.invariant-loop-key
invariant-loop-key l =
    IsWhole l.once × IsWhole l.shared × ((k : ℕ) → k < l.key-index → HasNumber l.once (get_or l.keys k 0 / 2 ^ l.bits))
    × ((k : ℕ) → k < l.key-index → (j : ℕ) → j < k → HaveSameUpper l.bits (get_or l.keys j 0) (get_or l.keys k 0)
    → HasNumber l.shared (get_or l.keys k 0 / 2 ^ l.bits))
