use Rattle.gix_refspec.proofs.Common.{map, take, AllByRecursion, GoesBothWays, reading_of}

abbrev pub invariant-loop-spec :
    Rattle.gix_refspec.proofs.match_group.types.MatchGroup.goes_both_ways.Given.invariant-loop-spec
invariant-loop-spec l = AllByRecursion GoesBothWays (map reading_of (take l.spec-index l.self.specs.items))
