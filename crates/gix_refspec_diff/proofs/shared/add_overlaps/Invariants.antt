use Rattle.gix_refspec_diff.proofs.Common.{◌++◌, ◌≡◌, map, start_of, take}
use Rattle.gix_refspec_diff.specs.Private.Searches.{overlapping}

abbrev pub invariant-loop-shared : Rattle.gix_refspec_diff.proofs.shared.add_overlaps.Given.invariant-loop-shared
invariant-loop-shared l = map start_of l.sources.items ≡
    map start_of l.fn.sources.items ++ map (overlapping l.common.prefix.now l.common.suffix.now)
    (take l.shared-index l.shared-items)
