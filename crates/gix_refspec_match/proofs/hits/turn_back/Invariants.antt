use Rattle.gix_refspec_match.proofs.Common.{◌≡◌, ◌++◌, map, take, drop, turned}

abbrev pub invariant-loop-hit : Rattle.gix_refspec_match.proofs.hits.turn_back.Given.invariant-loop-hit
invariant-loop-hit l = l.hits ≡ map (turned l.indexes) (take l.hit-index l.initial.hits)
    ++ drop l.hit-index l.initial.hits
