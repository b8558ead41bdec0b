use Rattle.gix_refspec_match.proofs.Common.{length, map, take, AllByRecursion, IsFlagged, name_bytes}

abbrev pub invariant-loop-text : Rattle.gix_refspec_match.proofs.index.prefixes.lengths_of.Given.invariant-loop-text
invariant-loop-text l = AllByRecursion (λ n. IsFlagged l.flags.items (length n))
    (map name_bytes (take l.text-index l.texts))
