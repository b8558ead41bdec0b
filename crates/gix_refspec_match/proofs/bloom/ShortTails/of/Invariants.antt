use Rattle.gix_refspec_match.proofs.Common.{map, take, AllByRecursion, AreWholeTails, HasTail, name_bytes}

abbrev pub invariant-loop-name : Rattle.gix_refspec_match.proofs.bloom.ShortTails.of.Given.invariant-loop-name
invariant-loop-name l = AreWholeTails l.short_tails × AllByRecursion (HasTail l.short_tails)
    (map name_bytes (take l.name-index l.names))
