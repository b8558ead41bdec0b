use Rattle.gix_refspec_match.proofs.Common.{◌≡◌, ◌++◌, map, take, object_mapping, mapped_of}

abbrev pub invariant-loop-object : Rattle.gix_refspec_match.proofs.map_objects.Given.invariant-loop-object
invariant-loop-object l = map mapped_of l.mappings.items ≡ map mapped_of l.fn.mappings.items ++ map object_mapping
    (take l.object-index l.objects)
