-- The output for the names of the refs is the output for the refs, by the law `names_decide`.
use Rattle.std.proofs.Common.{map, refl}
use Rattle.gix_refspec.specs.Views.Spec.{reading_of}
use Rattle.gix_refspec.specs.Matching.Hits.{AreKeptForward}
use Rattle.refspec_map.specs.Matching.{AreMapLines}
use Rattle.refspec_map.proofs.MatchingLemmas.{AreMapLines-of, IsMatching-named, map_lines_by_name}
use Rattle.refspec_map.proofs.matching.lhs_lines.Goals as goal

pub returns-clause-ok : goal.returns-clause-ok
returns-clause-ok c =
    let lines = AreMapLines-of AreKeptForward (map reading_of c.in_ok-specs.field-0.specs.items)
    c.as_slice-items.result.now c.as_slice-items.result.now c.in_ok-outcome.outcome.mappings.items
    c.as_slice.result.now c.in_ok-lines_of.field-0.items refl c.as_slice.ensures.value c.in_ok-outcome.ensures.ok.1
    c.in_ok-lines_of.ensures.ok in
    IsMatching-named _ (AreMapLines AreKeptForward) c.args.input.now _ _ c.in_ok-specs.field-0
    c.as_slice-items.result.now (map_lines_by_name _ c.as_slice-items.result.now c.names_decide.ensures)
    c.in_ok-specs.ensures.ok c.as_slice-items.ensures.value lines
