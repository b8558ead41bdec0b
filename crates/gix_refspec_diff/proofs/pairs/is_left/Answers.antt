use Rattle.gix_refspec_diff.proofs.Common.{CanBeWritten, IfOk-weaker, MatchBool-at_false, MatchBool-at_true, subst, sym}
use Rattle.gix_refspec_diff.proofs.lemmas.SoughtLemmas.{by_other, not_first}
use Rattle.gix_refspec_diff.proofs.pairs.is_left.Goals as goal

pub returns-then-not-branch : goal.returns-then-not-branch
returns-then-not-branch c g h are source written =
    not_first g h _ _ _ _ _ c.name_of.ensures
    (MatchBool-at_false _ _ c.if-not-branch.true (c.in_ok-is_first.ensures g are.one))

pub returns : goal.returns
returns c g h are source written =
    IfOk-weaker c.is_unfetched.result _ _
    (by_other g h _ _ _ _ _ c.name_of.ensures
    (MatchBool-at_true _ _ c.if-not-branch.false (c.in_ok-is_first.ensures g are.one)))
    (c.is_unfetched.ensures h are.other
    (record { source = source; destination = subst CanBeWritten (sym c.name_of.ensures) written }))
