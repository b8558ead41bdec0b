use Rattle.gix_refspec_plan.proofs.Common.{map, take, bstr_bytes, mapped_of, AreDestinations}

abbrev pub invariant-loop-mapping : Rattle.gix_refspec_plan.proofs.stale.destinations_of.Given.invariant-loop-mapping
invariant-loop-mapping l = AreDestinations (map mapped_of (take l.mapping-index l.written))
    (map bstr_bytes l.names.items)
