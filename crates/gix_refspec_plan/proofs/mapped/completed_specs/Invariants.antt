use Rattle.gix_refspec_plan.proofs.Common.{map, take, AllZip, reading_of, IsCompleted}

abbrev pub invariant-loop-index : Rattle.gix_refspec_plan.proofs.mapped.completed_specs.Given.invariant-loop-index
invariant-loop-index l = AllZip IsCompleted (map reading_of (take l.index l.specs)) (map reading_of l.completed.items)
