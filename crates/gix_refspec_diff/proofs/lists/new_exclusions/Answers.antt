use Rattle.gix_refspec_diff.proofs.Common.{MatchBool-at_false, MatchBool-at_true, arith, map, reading_of, take_all}
use Rattle.gix_refspec_diff.proofs.lemmas.ListLemmas.{exclusion_pushed, exclusion_skipped}
use Rattle.gix_refspec_diff.proofs.lists.new_exclusions.Goals.{else-is_new_exclusion, then-is_new_exclusion+in_ok-push}
use Rattle.gix_refspec_diff.proofs.lists.new_exclusions.Goals as goal

pub loop-index-preserved : goal.loop-index-preserved
loop-index-preserved c =
    let ones = map reading_of c.args.one.now in
    let others = c.args.other.now in
    let i = c.loop-index.index in
    let x = c.index-other-index.result in
    let old = c.loop-index.new.items in
    elim c.if-is_new_exclusion.branch [
      | then-is_new_exclusion+in_ok-push w ↦ rw w.new-is
          (exclusion_pushed ones others i x old c.loop-index-test.true c.index-other-index.is c.loop-index.invariant _
          w.in_ok-push.ensures.items (MatchBool-at_true _ _ w.if-is_new_exclusion.true c.is_new_exclusion.ensures))
      | else-is_new_exclusion w ↦ rw w.new-is
          (exclusion_skipped ones others i x old c.loop-index-test.true c.index-other-index.is c.loop-index.invariant
          c.in_ok-known.known.items c.in_ok-known.ensures
          (rw c.as_slice.ensures.value at
          (MatchBool-at_false _ _ w.if-is_new_exclusion.false c.is_new_exclusion.ensures)))
    ]

pub returns : goal.returns
returns c = rw (take_all c.loop-index.index c.args.other.now (omega arith)) at c.loop-index.invariant
