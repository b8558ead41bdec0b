use Rattle.gix_refspec_plan.proofs.{Common.{map, take, IsMadeFrom, asked_of}, lemmas.plan.SpecLemmas.Origins}

abbrev pub invariant-loop-index : Rattle.gix_refspec_plan.proofs.missing_of.Given.invariant-loop-index
invariant-loop-index l = IsMadeFrom (Origins (map asked_of l.asked)) 0 (take l.index-index l.index-items)
    l.missing.items
