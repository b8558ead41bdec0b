use Rattle.gix_refspec.proofs.Common.{◌≡◌, map, take, bstr_bytes, mapped_of, all_destinations}

abbrev pub invariant-loop-mapping :
    Rattle.gix_refspec.proofs.match_group.validate.conflicts.destinations_of.Given.invariant-loop-mapping
invariant-loop-mapping l = map bstr_bytes l.destinations.items ≡ all_destinations
    (map mapped_of (take l.mapping-index l.mappings))
