use Rattle.gix_refspec_why.proofs.Common.{map, take, AreAttempts, bstr_bytes, reading_of, ref_of}

abbrev pub invariant-loop-spec : Rattle.gix_refspec_why.proofs.attempts.attempts_of.Given.invariant-loop-spec
invariant-loop-spec l = AreAttempts (map reading_of (take l.spec-index l.specs)) (map ref_of l.items)
    (bstr_bytes l.name)
    l.attempts.items
