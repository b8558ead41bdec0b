use Rattle.gix_refspec_diff.proofs.Common.{MatchBool-at_false, MatchBool-at_true, map, ref_of}
use Rattle.gix_refspec_lint.proofs.lemmas.FoundLemmas.{both_named}
use Rattle.gix_refspec_lint.proofs.lemmas.IndexLemmas.{reading_at}
use Rattle.gix_refspec_diff.proofs.lemmas.MergeLemmas.{alone_there, everywhere, nowhere}
use Rattle.gix_refspec_diff.proofs.merged.merges_source.Goals as goal

pub returns-then-not-branch : goal.returns-then-not-branch
returns-then-not-branch c g h one other =
    nowhere g h c.args.one.now.specs.now c.args.other.now.specs.now one.completed other.completed _
    (reading_at _ _ c.index-one-0.result c.requires) _ _ _ c.in_ok-away.ensures
    (rw (c.as_slice.ensures.value, c.new-names.ensures.items) at c.in_ok-add_blockers.ensures)
    (map ref_of c.as_slice-items.result.now)
    (rw c.as_slice-items.ensures.value
    (both_named _ _ _ _ (rw c.new-items.ensures.items at c.in_ok-add_item.ensures)
    (rw c.as_slice-2.ensures.value at c.in_ok-add_names.ensures)))
    (MatchBool-at_false _ _ c.if-not-branch.true (c.in_ok-merges_over.ensures g one))

pub returns-then-branch : goal.returns-then-branch
returns-then-branch c g h one other =
    everywhere g h c.args.one.now.specs.now c.args.other.now.specs.now one.completed other.completed _
    (reading_at _ _ c.index-one-0.result c.requires) _ _ _ c.in_ok-away.ensures
    (rw (c.as_slice.ensures.value, c.new-names.ensures.items) at c.in_ok-add_blockers.ensures)
    (map ref_of c.as_slice-items.result.now)
    (rw c.as_slice-items.ensures.value
    (both_named _ _ _ _ (rw c.new-items.ensures.items at c.in_ok-add_item.ensures)
    (rw c.as_slice-2.ensures.value at c.in_ok-add_names.ensures)))
    (MatchBool-at_true _ _ c.if-branch.true (c.in_ok-merges_over-2.ensures h other))

pub returns : goal.returns
returns c g h one other =
    alone_there g h c.args.one.now.specs.now c.args.other.now.specs.now one.completed other.completed _
    (reading_at _ _ c.index-one-0.result c.requires) _ _ _ c.in_ok-away.ensures
    (rw (c.as_slice.ensures.value, c.new-names.ensures.items) at c.in_ok-add_blockers.ensures)
    (map ref_of c.as_slice-items.result.now)
    (rw c.as_slice-items.ensures.value
    (both_named _ _ _ _ (rw c.new-items.ensures.items at c.in_ok-add_item.ensures)
    (rw c.as_slice-2.ensures.value at c.in_ok-add_names.ensures)))
    (MatchBool-at_true _ _ c.if-not-branch.false (c.in_ok-merges_over.ensures g one))
    (MatchBool-at_false _ _ c.if-branch.false (c.in_ok-merges_over-2.ensures h other))
