use Rattle.gix_refspec_diff.proofs.Common.{AllByRecursion, IsRefName, bstring_bytes, map}

abbrev pub invariant-loop-at : Rattle.gix_refspec_diff.proofs.pairs.all_but.Given.invariant-loop-at
invariant-loop-at l = AllByRecursion IsRefName (map bstring_bytes l.names)
    → AllByRecursion IsRefName (map bstring_bytes l.rest.items)
