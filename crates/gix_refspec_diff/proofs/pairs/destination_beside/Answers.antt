use Rattle.gix_refspec_diff.proofs.Common.{MatchBool-at_false, MatchBool-at_true, map, mapped_of, ref_of}
use Rattle.gix_refspec_lint.proofs.lemmas.FoundLemmas.{both_named}
use Rattle.gix_refspec_lint.proofs.lemmas.IndexLemmas.{reading_at}
use Rattle.gix_refspec_diff.proofs.lemmas.SoughtLemmas.{is_sought, none_made, none_so}
use Rattle.gix_refspec_diff.proofs.pairs.destination_beside.Goals as goal

pub returns-in_default : goal.returns-in_default
returns-in_default c g h are included =
    none_made g h _ are.one.completed _ _ (reading_at _ _ c.index-lists-case.result c.requires) _
    (map ref_of c.as_slice-items.result.now) _
    (rw c.as_slice-items.ensures.value
    (both_named _ _ _ _ (rw c.new-items.ensures.items at c.in_ok-add_item.ensures) c.in_ok-add_names.ensures))
    (rw c.in_default.is at c.in_ok-mapping.ensures)

pub returns-then-not-branch : goal.returns-then-not-branch
returns-then-not-branch c g h are included =
    let makes = rw c.in-Some.is at c.in_ok-mapping.ensures in
    none_so g h _ are.one.completed _ _ (reading_at _ _ c.index-lists-case.result c.requires) _
    (map ref_of c.as_slice-items.result.now) _
    (rw c.as_slice-items.ensures.value
    (both_named _ _ _ _ (rw c.new-items.ensures.items at c.in_ok-add_item.ensures) c.in_ok-add_names.ensures))
    (mapped_of c.in-Some.mapping).destination makes
    (MatchBool-at_false _ _ c.if-not-branch.true
    (c.in_ok-is_left.ensures g h are makes.source makes.destination))

pub returns : goal.returns
returns c g h are included =
    let makes = rw c.in-Some.is at c.in_ok-mapping.ensures in
    let (first, does) = MatchBool-at_true _ _ c.if-not-branch.false
    (c.in_ok-is_left.ensures g h are makes.source makes.destination) in
    rw c.in_ok-name.ensures
    (is_sought g h _ are.one.completed _ _ (reading_at _ _ c.index-lists-case.result c.requires) _
    (map ref_of c.as_slice-items.result.now) _
    (rw c.as_slice-items.ensures.value
    (both_named _ _ _ _ (rw c.new-items.ensures.items at c.in_ok-add_item.ensures) c.in_ok-add_names.ensures))
    (mapped_of c.in-Some.mapping).destination makes included first does)
