use Rattle.gix_refspec.proofs.Common.{◌≡◌, [], map, take, AllByRecursion, reading_of, mapped_of, AreFixes, Survives}
use Rattle.gix_refspec.proofs.Common.{removed_of}

abbrev pub invariant-loop-mapping : Rattle.gix_refspec.proofs.match_group.validate.fixes_of.Given.invariant-loop-mapping
invariant-loop-mapping l =
    AreFixes (map reading_of l.specs) (map mapped_of (take l.mapping-index l.mappings)) (map removed_of l.fixes.items)
    × (l.fixes.items ≡ [] → AllByRecursion Survives (map mapped_of (take l.mapping-index l.mappings)))
