use Rattle.gix_refspec_diff.proofs.Common.{MatchBool-at_false, MatchBool-at_true, inl, inr}
use Rattle.gix_refspec_lint.proofs.lemmas.IdleLemmas.{allowed_more, allowed_same}
use Rattle.gix_refspec_diff.proofs.lemmas.BlockerLemmas.{allowed_there}
use Rattle.gix_refspec_diff.proofs.blockers.add_new.Goals as goal

pub loop-name-preserved-in-Continue-1 : goal.loop-name-preserved-in-Continue-1
loop-name-preserved-in-Continue-1 c =
    allowed_more _ c.loop-name.yielded _ c.loop-name.names.items c.in-Some.name c.loop-name.invariant
    c.push.new.self.items c.in_ok-push.ensures.items
    (rw c.as_bstr.ensures at (MatchBool-at_true _ _ c.if-is_new.true c.is_new.ensures))

pub loop-name-preserved : goal.loop-name-preserved
loop-name-preserved c =
    elim (rw (c.as_bstr.ensures, c.as_slice.ensures.value) at
    (MatchBool-at_false _ _ c.if-is_new.false c.is_new.ensures)) [
      | inl none ↦ allowed_same _ c.loop-name.yielded _ c.loop-name.names.items c.in-Some.name c.loop-name.invariant
          none
      | inr there ↦ allowed_there _ c.loop-name.yielded _ _ c.in-Some.name c.loop-name.invariant there
    ]
