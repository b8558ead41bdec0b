use Rattle.gix_refspec_diff.proofs.Common.{bstring_bytes, map, reading_of, start_of, take}
use Rattle.gix_refspec_diff.specs.Private.Searches.{AddBlockers}

abbrev pub invariant-loop-spec : Rattle.gix_refspec_diff.proofs.blockers.add_blockers.Given.invariant-loop-spec
invariant-loop-spec l = AddBlockers (map reading_of (take l.spec-index l.specs)) (start_of l.source)
    (map bstring_bytes l.away) (map bstring_bytes l.fn.names.items) (map bstring_bytes l.names.items)
