use Rattle.gix_refspec_match.proofs.Common.{take, AllByRecursion, kind_of_side, HasNamesOf}

abbrev pub invariant-loop-matcher : Rattle.gix_refspec_match.proofs.index.Names.of.Given.invariant-loop-matcher
invariant-loop-matcher l = AllByRecursion (λ m. HasNamesOf l.names (kind_of_side m.needle))
    (take l.matcher-index l.matchers.list.items)
