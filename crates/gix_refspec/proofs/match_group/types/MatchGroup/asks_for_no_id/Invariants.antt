use Rattle.gix_refspec.proofs.Common.{map, take, reading_of, AsksForNoId}

abbrev pub invariant-loop-spec :
    Rattle.gix_refspec.proofs.match_group.types.MatchGroup.asks_for_no_id.Given.invariant-loop-spec
invariant-loop-spec l = AsksForNoId (map reading_of (take l.spec-index l.self.specs.items))
