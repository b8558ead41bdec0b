use Rattle.gix_refspec_plan.proofs.Common.{map-append, take_more, ap, List, Reading, reading_of, ◌++◌, ◌∷◌, []}

pub loop-one-preserved : Rattle.gix_refspec_plan.proofs.mapped.specs_in.Goals.loop-one-preserved
loop-one-preserved c =
    rw (
      take_more c.args.asked.now c.loop-one.one-index c.one-item.result c.loop-one-test.true,
      ← c.one-item.is,
      c.in_ok-push.ensures.items,
      map-append,
      map-append,
      map-append,
    )
    (ap (λ (l : List Reading). l ++ reading_of c.one-item.result.spec ∷ []) c.loop-one.invariant)
