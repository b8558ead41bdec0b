use Rattle.gix_refspec_match.proofs.Common.{map, take, AllByRecursion, IsWholeFilter, Passes, name_bytes}

abbrev pub invariant-loop-name : Rattle.gix_refspec_match.proofs.bloom.NameFilter.of.Given.invariant-loop-name
invariant-loop-name l = IsWholeFilter l.filter × AllByRecursion (Passes l.filter)
    (map name_bytes (take l.name-index l.names))
