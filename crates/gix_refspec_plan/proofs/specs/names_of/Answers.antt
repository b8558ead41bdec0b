-- One more merged ref behind the others.
use Rattle.gix_refspec_plan.proofs.Common.{[], BStr, map-append, append_assoc, map_more, bstr_bytes}

pub loop-name-preserved : Rattle.gix_refspec_plan.proofs.specs.names_of.Goals.loop-name-preserved
loop-name-preserved c =
    let (sources, are, whole) = c.loop-name.invariant in
    let d : BStr = record { bytes = record { ref_ptr = (0, 0); now = [] } } in (
      sources,
      are,
      rw (
        c.in_ok-push.ensures.items,
        map-append,
        whole,
        map_more bstr_bytes c.args.merges.now c.loop-name.name-index
            d c.loop-name-test.true,
      ) (append_assoc sources _ _),
    )
