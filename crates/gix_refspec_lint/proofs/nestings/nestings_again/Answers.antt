-- Only the specs with which the earlier one is in such a conflict can be in one with this one.
use Rattle.gix_refspec_lint.proofs.Common.{map, None, Some, append-nil, sym, ap, ◌∙◌, take_all, arith, inl}
use Rattle.gix_refspec_lint.proofs.Common.{inr, map-append, get_or, get_or_default}
use Rattle.gix_refspec_lint.proofs.lemmas.AlikeLemmas.{alike_in, nesting_within, made_again, nests_first, sparse_next}
use Rattle.gix_refspec_lint.proofs.lemmas.FoundLemmas.{group_long}
use Rattle.gix_refspec_lint.specs.Matching.Lint.{IsNesting}
use Rattle.gix_refspec_lint.specs.Private.Alike.{CanShowNesting}
use Rattle.gix_refspec_lint.specs.Views.Lint.{nesting_of}
use Rattle.gix_refspec_lint.proofs.nestings.nestings_again.Goals as goal
use Rattle.gix_refspec_lint.proofs.nestings.nestings_again.Goals.{else-are_in_order}
use Rattle.gix_refspec_lint.proofs.nestings.nestings_again.Goals.{then-are_in_order+in_ok-nesting+in-Some+in_ok-push}
use Rattle.gix_refspec_lint.proofs.nestings.nestings_again.Goals.{then-are_in_order+in_ok-nesting+in_default}

pub nesting_of_two-requires-clause-within : goal.nesting_of_two-requires-clause-within
nesting_of_two-requires-clause-within c =
    let order = rw c.if-are_in_order.true at c.are_in_order.ensures in (order.0, order.1)

pub loop-second-preserved : goal.loop-second-preserved
loop-second-preserved c g is have tell =
    let i = c.args.first in
    let seconds = c.args.seconds.now in
    let at = c.loop-second.second-index in
    let s = get_or seconds at 0 in
    let here = get_or_default seconds at 0 s c.loop-second-test.true in
    let so_far = c.loop-second.invariant g is have tell in
    elim c.if-are_in_order.branch [
      | then-are_in_order+in_ok-nesting+in-Some+in_ok-push w ↦
          rw w.found-is (sparse_next (IsNesting g i) seconds at s _ _
          (Some (nesting_of w.in-Some.nesting)) c.loop-second-test.true here
          (rw w.in-Some.is at (w.in_ok-nesting.ensures g is have tell)) so_far
          (ap (map nesting_of) w.in_ok-push.ensures.items ∙ map-append nesting_of _ _))
      | then-are_in_order+in_ok-nesting+in_default w ↦ rw w.found-is (sparse_next (IsNesting g i) seconds at s _ _ None
          c.loop-second-test.true here (rw w.in_default.is at (w.in_ok-nesting.ensures g is have tell)) so_far
          (sym (append-nil _)))
      | else-are_in_order w ↦
          rw w.found-is (sparse_next (IsNesting g i) seconds at s _ _ None c.loop-second-test.true here
          (λ n shown. elim (rw w.if-are_in_order.false at c.are_in_order.ensures) [
            | inl before ↦ omega (arith, before, shown.before)
            | inr beyond ↦ omega (arith, beyond, nesting_within g i s n shown, group_long g c.args.group.now is)
          ]) so_far (sym (append-nil _)))
    ]

pub returns : goal.returns
returns c g is have tell p earlier are =
    let seconds = c.args.seconds.now in
    let made = rw (take_all c.loop-second.second-index seconds (omega (arith, c.loop-second-test.false))) at
    (c.loop-second.invariant g is have tell) in
    made_again (CanShowNesting g p) (IsNesting g c.args.first)
    (λ j n shown. nests_first g p c.args.first j
    (alike_in g c.args.group.now is c.args.first p c.requires.within earlier) earlier.before (n, shown))
    0 0 g seconds _ are made
