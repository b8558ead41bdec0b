use Rattle.gix_refspec_lint.proofs.Common.{take_all, arith, of_element, one_more_mapped, reading_of, start_of}
use Rattle.gix_refspec_lint.proofs.Common.{MatchBool-at_false, MatchBool-at_true}
use Rattle.gix_refspec_lint.specs.Private.Removals.{FetchesSource}
use Rattle.gix_refspec_lint.proofs.removal.fetches_named.Goals as goal

pub returns-then-branch : goal.returns-then-branch
returns-then-branch c g is plain =
    (start_of c.source-item.result, MatchBool-at_true _ _ c.if-branch.true (c.in_ok-does_fetch.ensures g is))

pub loop-source-preserved : goal.loop-source-preserved
loop-source-preserved c g is =
    one_more_mapped start_of (λ s. ¬ (FetchesSource g (reading_of c.args.spec.now) s)) c.deref-source-items.result.now
    c.loop-source.source-index c.source-item.result (c.loop-source.invariant g is) c.loop-source-test.true
    c.source-item.is
    (MatchBool-at_false _ _ c.if-branch.false (c.in_ok-does_fetch.ensures g is))

pub returns : goal.returns
returns c g is plain (s, (refs, d, makes, included)) =
    of_element (λ s. ¬ (FetchesSource g (reading_of c.args.spec.now) s)) _ s
    (rw (
      take_all c.loop-source.source-index c.deref-source-items.result.now (omega arith),
      c.deref-source-items.ensures.value,
    ) at (c.loop-source.invariant g is))
    (c.in_ok-named_sources.ensures plain refs s d makes.makes)
    (refs, d, makes, included)
