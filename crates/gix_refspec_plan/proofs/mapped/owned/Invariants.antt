use Rattle.gix_refspec_plan.proofs.Common.{◌≡◌, map, mapped_of}

abbrev pub invariant-loop-mapping : Rattle.gix_refspec_plan.proofs.mapped.owned.Given.invariant-loop-mapping
invariant-loop-mapping l = map mapped_of l.all.items ≡ map mapped_of l.yielded
