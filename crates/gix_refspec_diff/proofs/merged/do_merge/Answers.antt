use Rattle.gix_refspec_diff.proofs.Common.{MatchBool-at_false, MatchBool-at_true}
use Rattle.gix_refspec_diff.proofs.merged.do_merge.Goals as goal

pub returns-then-branch : goal.returns-then-branch
returns-then-branch c g h one other alike =
    alike.0 (MatchBool-at_true _ _ c.if-branch.true (c.in_ok-merges_alone.ensures g h one other))

pub returns-then-branch-2 : goal.returns-then-branch-2
returns-then-branch-2 c g h one other alike =
    alike.1 (MatchBool-at_true _ _ c.if-branch-2.true (c.in_ok-merges_alone-2.ensures h g other one))

pub returns : goal.returns
returns c g h one other = (
  MatchBool-at_false _ _ c.if-branch.false (c.in_ok-merges_alone.ensures g h one other),
  MatchBool-at_false _ _ c.if-branch-2.false (c.in_ok-merges_alone-2.ensures h g other one),
)
