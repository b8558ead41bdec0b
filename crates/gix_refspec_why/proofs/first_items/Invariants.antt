use Rattle.gix_refspec_why.proofs.Common.{map, take, ref_of, NamesFirst}

abbrev pub invariant-loop-index : Rattle.gix_refspec_why.proofs.first_items.Given.invariant-loop-index
invariant-loop-index l = NamesFirst (map ref_of (take l.index l.items)) l.firsts
