use Rattle.gix_refspec_plan.proofs.{Common.{map, take, mapped_of}, lemmas.plan.SpecLemmas.AreTakenFlags}

abbrev pub invariant-loop-mapping : Rattle.gix_refspec_plan.proofs.specs.taken_flags.Given.invariant-loop-mapping
invariant-loop-mapping l = AreTakenFlags (map mapped_of (take l.mapping-index l.mappings)) l.fn.len l.flags.items
