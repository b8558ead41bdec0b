use Rattle.gix_refspec.proofs.Common.{map, take, AllByRecursion, HasCoveringSource, reading_of}

abbrev pub invariant-loop-spec :
    Rattle.gix_refspec.proofs.match_group.types.MatchGroup.has_covering_sources.Given.invariant-loop-spec
invariant-loop-spec l = AllByRecursion HasCoveringSource (map reading_of (take l.spec-index l.self.specs.items))
