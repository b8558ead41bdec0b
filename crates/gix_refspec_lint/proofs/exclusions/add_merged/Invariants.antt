use Rattle.gix_refspec_lint.proofs.{Common.{map, bstring_bytes, start_of}, lemmas.MergedLemmas.AddsNames}

abbrev pub invariant-loop-name : Rattle.gix_refspec_lint.proofs.exclusions.add_merged.Given.invariant-loop-name
invariant-loop-name l =
    AddsNames (map bstring_bytes l.yielded) (map start_of l.fn.merged.items) (map start_of l.merged.items)
