use Rattle.gix_refspec_plan.proofs.Common.{map, take, reading_of, AreThose, IsIn, origin_in, asked_of}

abbrev pub invariant-loop-index : Rattle.gix_refspec_plan.proofs.specs.specs_of.Given.invariant-loop-index
invariant-loop-index l = AreThose (IsIn l.fn.part) (origin_in l.fn.list) (map reading_of (take l.index l.specs))
    (map asked_of l.asked.items)
