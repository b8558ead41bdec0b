use Rattle.gix_refspec_plan.proofs.Common.{map, option_map, take, bstring_bytes, reading_of, AreNewDestinations}

abbrev pub invariant-loop-spec : Rattle.gix_refspec_plan.proofs.mapped.completed_names.Given.invariant-loop-spec
invariant-loop-spec l = AreNewDestinations (map reading_of (take l.spec-index l.specs))
    (map (option_map bstring_bytes) l.names.items)
