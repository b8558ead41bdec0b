use Rattle.gix_refspec_plan.proofs.lemmas.plan.CoveredLemmas.{local_next}

pub loop-item-preserved : Rattle.gix_refspec_plan.proofs.stale.names_of.Goals.loop-item-preserved
loop-item-preserved c = local_next c.args.local.now c.loop-item.item-index _ _ _ _ c.loop-item-test.true
    c.loop-item.invariant c.in_ok-push.ensures.items
