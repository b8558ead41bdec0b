-- the destinations so far are those of the mappings so far
use Rattle.std.proofs.Common.{◌≡◌, map, take}
use Rattle.bstr.specs.BStr.{bstr_bytes}
use Rattle.gix_refspec.specs.Private.Updates.{all_destinations}
use Rattle.gix_refspec_c.specs.Validating.{mapped_in}
use Rattle.gix_refspec_c.proofs.validating.destinations_of.Given as goal

abbrev pub invariant-loop-pair : goal.invariant-loop-pair
invariant-loop-pair l =
    map bstr_bytes l.destinations.items ≡ all_destinations (map mapped_in (take l.pair-index l.pairs))
