use Rattle.gix_refspec_why.proofs.Common.{take, ◌≡◌}

abbrev pub invariant-loop-item : Rattle.gix_refspec_why.proofs.with_name.Given.invariant-loop-item
invariant-loop-item l = l.all.items ≡ take l.item-index l.items
