use Rattle.gix_refspec_lint.proofs.{Common.{map, bstring_bytes, reading_of, start_of}, lemmas.IdleLemmas.FreesSoFar}

abbrev pub invariant-loop-at : Rattle.gix_refspec_lint.proofs.idle.freeing_names.Given.invariant-loop-at
invariant-loop-at l =
    FreesSoFar (map reading_of l.group.specs.now) (start_of l.source) (map bstring_bytes l.kept_away.items)
    (map bstring_bytes l.names.items) l.fn.others.from l.at
