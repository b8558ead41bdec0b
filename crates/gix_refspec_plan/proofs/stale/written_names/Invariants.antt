use Rattle.gix_refspec_plan.proofs.Common.{map, option_map, take, AllZip, bstring_bytes, reading_of, IsWrittenBy}

abbrev pub invariant-loop-spec : Rattle.gix_refspec_plan.proofs.stale.written_names.Given.invariant-loop-spec
invariant-loop-spec l = AllZip IsWrittenBy (map reading_of (take l.spec-index l.specs))
    (map (option_map bstring_bytes) l.names.items)
