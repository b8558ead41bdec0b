-- The output for the items of the refs is the output for the refs.
use Rattle.std.proofs.Common.{map}
use Rattle.gix_refspec.specs.Views.Spec.{reading_of}
use Rattle.gix_refspec.specs.Matching.Hits.{AreKeptBackward}
use Rattle.refspec_map.specs.Matching.{AreMapLines}
use Rattle.refspec_map.proofs.MatchingLemmas.{AreMapLines-of, IsMatching-of}
use Rattle.refspec_map.proofs.matching.rhs_by_id.Goals as goal

pub returns-clause-ok : goal.returns-clause-ok
returns-clause-ok c =
    let lines = AreMapLines-of AreKeptBackward (map reading_of c.in_ok-specs.field-0.specs.items)
    c.in_ok-items.items.items c.as_slice-2.result.now c.in_ok-outcome.outcome.mappings.items c.as_slice-3.result.now
    c.in_ok-lines_of.field-0.items c.as_slice-2.ensures.value c.as_slice-3.ensures.value
    c.in_ok-outcome.ensures.ok.1 c.in_ok-lines_of.ensures.ok in
    IsMatching-of _ (AreMapLines AreKeptBackward) c.args.input.now _ _ c.in_ok-specs.field-0 c.in_ok-items.items.items
    c.as_slice.result.now c.in_ok-specs.ensures.ok c.as_slice.ensures.value c.in_ok-items.ensures.ok lines
