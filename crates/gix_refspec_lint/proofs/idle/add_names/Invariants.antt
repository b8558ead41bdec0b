use Rattle.gix_refspec_lint.proofs.Common.{◌++◌, map, take, bstring_bytes, ref_of, HaveSameNames, ref_named}

abbrev pub invariant-loop-name : Rattle.gix_refspec_lint.proofs.idle.add_names.Given.invariant-loop-name
invariant-loop-name l = HaveSameNames (map ref_of l.items.items)
    (map ref_of l.fn.items.items ++ map ref_named (map bstring_bytes (take l.name-index l.names)))
