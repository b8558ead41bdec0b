use Rattle.gix_refspec_diff.proofs.Common.{MatchBool-at_false, MatchBool-at_true, arith, of_element, one_more_mapped}
use Rattle.gix_refspec_diff.proofs.Common.{reading_of, same_Some, slice_get_within, start_of, subst, sym, take_all}
use Rattle.gix_refspec_diff.proofs.Common.{zero, ◌∙◌}
use Rattle.gix_refspec_lint.proofs.Common.{HasPlainSource, length-map}
use Rattle.gix_refspec_lint.proofs.lemmas.IndexLemmas.{reading_at}
use Rattle.gix_refspec_diff.proofs.lemmas.MergeLemmas.{no_first, no_source}
use Rattle.gix_refspec_diff.specs.Matching.Difference.{MergesAlone}
use Rattle.gix_refspec_diff.proofs.merged.merges_alone.Goals as goal

pub returns-then-not-has_plain_first : goal.returns-then-not-has_plain_first
returns-then-not-has_plain_first c g h one other = no_first g h _ one.completed c.if-not-has_plain_first.ensures

pub bounds-one-0 : goal.bounds-one-0
bounds-one-0 c =
    let (r, at, plain) = c.if-not-has_plain_first.ensures in
    omega (arith, length-map c.args.one.now.specs.now reading_of, slice_get_within _ zero r at)

pub merges_source-requires : goal.merges_source-requires
merges_source-requires c =
    let (r, at, plain) = c.if-not-has_plain_first.ensures in
    omega (arith, length-map c.args.one.now.specs.now reading_of, slice_get_within _ zero r at)

pub returns-then-branch : goal.returns-then-branch
returns-then-branch c g h one other = (
  start_of c.source-item.result,
  MatchBool-at_true _ _ c.if-branch.true (c.in_ok-merges_source.ensures g h one other),
)

pub loop-source-preserved : goal.loop-source-preserved
loop-source-preserved c g h one other =
    one_more_mapped start_of (λ s. ¬ (MergesAlone g h s)) c.deref-source-items.result.now
    c.loop-source.source-index c.source-item.result (c.loop-source.invariant g h one other) c.loop-source-test.true
    c.source-item.is
    (MatchBool-at_false _ _ c.if-branch.false (c.in_ok-merges_source.ensures g h one other))

pub returns : goal.returns
returns c g h one other =
    let specs = c.args.one.now.specs.now in
    let (r, at, plain) = c.if-not-has_plain_first.ensures in
    let here = reading_at specs 0 c.index-one-0.result
    (omega (arith, length-map specs reading_of, slice_get_within _ zero r at)) in
    no_source g h _ one.completed _ here _
    (c.in_ok-named_sources.ensures (subst HasPlainSource (same_Some _ _ (sym at ∙ here)) plain))
    (λ s there. of_element (λ t. ¬ (MergesAlone g h t)) _ s
    (rw (
      take_all c.loop-source.source-index c.deref-source-items.result.now (omega arith),
      c.deref-source-items.ensures.value,
    ) at (c.loop-source.invariant g h one other)) there)
