-- If no destination is an id, the output for the names of the refs is the output for the refs, by the law
-- `names_decide_back`.
use Rattle.std.proofs.Common.{map, refl}
use Rattle.gix_refspec.specs.Views.Spec.{reading_of}
use Rattle.gix_refspec.specs.Matching.Hits.{AreKeptBackward}
use Rattle.refspec_map.specs.Matching.{AreMapLines}
use Rattle.refspec_map.proofs.MatchingLemmas.{AreMapLines-of, IsMatching-named, map_lines_back_by_name}
use Rattle.refspec_map.proofs.matching.rhs_by_name.Goals as goal

pub returns-clause-ok : goal.returns-clause-ok
returns-clause-ok c =
    let none = c.asks_for_no_id.ensures.0 c.if-not-asks_for_no_id.false in
    let lines = AreMapLines-of AreKeptBackward (map reading_of c.in_ok-specs.field-0.specs.items)
    c.as_slice-items.result.now c.as_slice-items.result.now c.in_ok-outcome.outcome.mappings.items
    c.as_slice.result.now c.in_ok-lines_of.field-0.items refl c.as_slice.ensures.value c.in_ok-outcome.ensures.ok.1
    c.in_ok-lines_of.ensures.ok in
    IsMatching-named _ (AreMapLines AreKeptBackward) c.args.input.now _ _ c.in_ok-specs.field-0
    c.as_slice-items.result.now
    (map_lines_back_by_name (map reading_of c.in_ok-specs.field-0.specs.items) c.as_slice-items.result.now
    c.names_decide_back.ensures none) c.in_ok-specs.ensures.ok c.as_slice-items.ensures.value lines
