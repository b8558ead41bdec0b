use Rattle.gix_refspec_plan.{proofs.Common.{map, take, bstr_bytes, mapped_of, ref_of}, specs.Private.Stales.AreNames}

abbrev pub invariant-loop-item : Rattle.gix_refspec_plan.proofs.stale.names_of.Given.invariant-loop-item
invariant-loop-item l = AreNames (map mapped_of l.fn.written) (map ref_of (take l.item-index l.local))
    (map bstr_bytes l.names.items)
