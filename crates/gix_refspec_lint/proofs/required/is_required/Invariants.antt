use Rattle.gix_refspec_lint.proofs.{Common.{map, bstring_bytes, reading_of}, lemmas.RequiredLemmas.AreHad}

abbrev pub invariant-loop-at : Rattle.gix_refspec_lint.proofs.required.is_required.Given.invariant-loop-at
invariant-loop-at l = AreHad (map reading_of l.specs) l.index (map bstring_bytes l.names.items) l.at
