use Rattle.gix_refspec.proofs.Common.{◌≡◌, [], map, take, AllByRecursion, mapped_of, AreLeftOut, HasRefNames}
use Rattle.gix_refspec.proofs.Common.{left_out_of}

abbrev pub invariant-loop-mapping :
    Rattle.gix_refspec.proofs.match_group.ref_names.invalid_mappings.Given.invariant-loop-mapping
invariant-loop-mapping l =
    AreLeftOut (map mapped_of (take l.mapping-index l.mappings)) (map left_out_of l.bad.items)
    × (l.bad.items ≡ [] → AllByRecursion HasRefNames (map mapped_of (take l.mapping-index l.mappings)))
