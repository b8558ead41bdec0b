-- Only the specs with which the earlier one conflicts can conflict with this one.
use Rattle.gix_refspec_lint.proofs.Common.{map, None, Some, append-nil, sym, ap, ◌∙◌, take_all, arith, inl}
use Rattle.gix_refspec_lint.proofs.Common.{inr, map-append, get_or, IsExample, example_of}
use Rattle.gix_refspec_lint.proofs.Common.{get_or_default}
use Rattle.gix_refspec_lint.proofs.lemmas.AlikeLemmas.{alike_in, example_within, made_again, shown_first, sparse_next}
use Rattle.gix_refspec_lint.proofs.lemmas.FoundLemmas.{group_long}
use Rattle.gix_refspec_lint.specs.Private.Alike.{CanShow}
use Rattle.gix_refspec_lint.proofs.conflicts.conflicts_again.Goals as goal
use Rattle.gix_refspec_lint.proofs.conflicts.conflicts_again.Goals.{else-are_in_order}
use Rattle.gix_refspec_lint.proofs.conflicts.conflicts_again.Goals.{then-are_in_order+in_ok-conflict+in-Some+in_ok-push}
use Rattle.gix_refspec_lint.proofs.conflicts.conflicts_again.Goals.{then-are_in_order+in_ok-conflict+in_default}

pub conflict_between-requires : goal.conflict_between-requires
conflict_between-requires c =
    let order = rw c.if-are_in_order.true at c.are_in_order.ensures in (order.0, order.1, c.requires.parts)

pub loop-second-preserved : goal.loop-second-preserved
loop-second-preserved c g is have =
    let i = c.args.first in
    let seconds = c.args.seconds.now in
    let at = c.loop-second.second-index in
    let s = get_or seconds at 0 in
    let here = get_or_default seconds at 0 s c.loop-second-test.true in
    let so_far = c.loop-second.invariant g is have in
    elim c.if-are_in_order.branch [
      | then-are_in_order+in_ok-conflict+in-Some+in_ok-push w ↦
          rw w.found-is (sparse_next (IsExample g i) seconds at s _ _
          (Some (example_of w.in-Some.conflict)) c.loop-second-test.true here
          (rw w.in-Some.is at (w.in_ok-conflict.ensures g is have)) so_far
          (ap (map example_of) w.in_ok-push.ensures.items ∙ map-append example_of _ _))
      | then-are_in_order+in_ok-conflict+in_default w ↦ rw w.found-is (sparse_next (IsExample g i) seconds at s _ _ None
          c.loop-second-test.true here (rw w.in_default.is at (w.in_ok-conflict.ensures g is have)) so_far
          (sym (append-nil _)))
      | else-are_in_order w ↦
          rw w.found-is (sparse_next (IsExample g i) seconds at s _ _ None c.loop-second-test.true here
          (λ e shown. elim (rw w.if-are_in_order.false at c.are_in_order.ensures) [
            | inl before ↦ omega (arith, before, shown.order)
            | inr beyond ↦ omega (arith, beyond, example_within g i s e shown, group_long g c.args.group.now is)
          ]) so_far (sym (append-nil _)))
    ]

pub returns : goal.returns
returns c g is have p earlier are =
    let seconds = c.args.seconds.now in
    let made = rw (take_all c.loop-second.second-index seconds (omega (arith, c.loop-second-test.false))) at
    (c.loop-second.invariant g is have) in
    made_again (CanShow g p) (IsExample g c.args.first)
    (λ j e shown. shown_first g p c.args.first j
    (alike_in g c.args.group.now is c.args.first p c.requires.within earlier) earlier.before (e, shown))
    0 0 g seconds _ are made
