use Rattle.gix_refspec_match.proofs.Common.{map, take, AddsMapped, ref_of, mapped_of, All}

abbrev pub invariant-loop-hit : Rattle.gix_refspec_match.proofs.map_backward.Given.invariant-loop-hit
invariant-loop-hit l = AddsMapped All l.exclusions l.matchers (map ref_of l.items) (take l.hit-index l.hit-items)
    (map mapped_of l.fn.mappings.items) (map mapped_of l.mappings.items)
