use Rattle.gix_refspec_plan.proofs.Common.{map, take, bstr_bytes, mapped_of, AreSoundNames}

abbrev pub invariant-loop-mapping : Rattle.gix_refspec_plan.proofs.specs.sources_of.Given.invariant-loop-mapping
invariant-loop-mapping l = AreSoundNames (map mapped_of (take l.mapping-index l.mappings))
    (map bstr_bytes l.names.items)
