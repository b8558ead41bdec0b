use Rattle.gix_refspec_plan.proofs.Common.{map, take, bstr_bytes, mapped_of, AreNames}

abbrev pub invariant-loop-name : Rattle.gix_refspec_plan.proofs.specs.names_of.Given.invariant-loop-name
invariant-loop-name l = AreNames (map bstr_bytes (take l.name-index l.merges)) (map mapped_of l.fn.mappings)
    (map bstr_bytes l.names.items)
