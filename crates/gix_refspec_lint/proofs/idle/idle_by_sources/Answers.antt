use Rattle.gix_refspec_lint.proofs.Common.{inl, inr, map, sym, ◌∙◌, take_all, arith, same_Some, all_weaker}
use Rattle.gix_refspec_lint.proofs.Common.{one_more_mapped, start_of, Explains, subst, HasPlainSource}
use Rattle.gix_refspec_lint.proofs.lemmas.IdleSpecLemmas.{idle_by}
use Rattle.gix_refspec_lint.proofs.lemmas.{IdleSpecLemmas.sources_explain, IndexLemmas.reading_at}
use Rattle.gix_refspec_lint.proofs.idle.idle_by_sources.Goals as goal

pub returns-in-None : goal.returns-in-None
returns-in-None c g is r at plain = rw c.in-None.is at (c.in_ok-idle_at.ensures g is)

pub loop-source-preserved : goal.loop-source-preserved
loop-source-preserved c g is =
    let k = c.args.index in
    let o = c.args.others in
    let told = rw c.in-Some.is at (c.in_ok-idle_at.ensures g is) in
    let old = c.loop-source.invariant g is in
    let new = c.stronger-reason.result in
    let before = all_weaker (λ s. Explains g o k s c.loop-source.reason) (λ s. Explains g o k s new)
    (λ s e. c.stronger-reason.ensures.explains g o k s (inl e)) _ old.0 in
    let more = one_more_mapped start_of
    (λ s. Explains g o k s new) c.deref-source-items.result.now c.loop-source.source-index c.source-item.result before
    c.loop-source-test.true c.source-item.is in (
      more (c.stronger-reason.ensures.explains g o k (start_of c.source-item.result) (inr told.0)),
      c.stronger-reason.ensures.shown g o k old.1 told.1,
    )

pub returns : goal.returns
returns c g is r at plain =
    let also = reading_at c.args.group.now.specs.now c.args.index c.index-group-index.result c.requires.0 in
    let old = c.loop-source.invariant g is in
    idle_by g c.args.others c.args.index c.loop-source.reason
    (sources_explain g _ is.completed c.args.others c.args.index _ also (map start_of c.deref-source-items.result.now)
    (rw c.deref-source-items.ensures.value
    (c.in_ok-named_sources.ensures (subst HasPlainSource (same_Some _ _ (sym at ∙ also)) plain)))
    c.loop-source.reason
    (rw (take_all c.loop-source.source-index c.deref-source-items.result.now (omega arith)) at old.0)) old.1
