use Rattle.gix_refspec_match.proofs.Common.{map, take, IsPart, ref_of}

abbrev pub invariant-loop-index : Rattle.gix_refspec_match.proofs.unique.Unique.of.Given.invariant-loop-index
invariant-loop-index l = IsPart (map ref_of (take l.index l.items)) (map ref_of l.unique.items.items)
    l.unique.indexes.items
