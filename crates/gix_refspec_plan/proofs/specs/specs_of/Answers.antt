use Rattle.gix_refspec_plan.proofs.{Common.{reading_of, asked_of}, lemmas.plan.MadeLemmas.{made_one, made_none}}
use Rattle.gix_refspec_plan.proofs.specs.specs_of.Goals as goal

pub loop-index-preserved : goal.loop-index-preserved
loop-index-preserved c =
    let specs = c.args.specs.now in
    let i = c.loop-index.index in
    let s = c.index-specs-index.result in
    elim c.if-has.branch [
      | goal.then-has+in_ok-push w ↦ rw w.asked-is
          (made_one _ reading_of asked_of specs i s _ c.loop-index-test.true c.index-specs-index.is
          c.loop-index.invariant _ _
          ((λ j. record { reading = reading_of s; origin = w.origin.ensures j }), rw w.if-has.true at c.has.ensures)
          w.in_ok-push.ensures.items)
      | goal.else-has w ↦ rw w.asked-is
          (made_none _ reading_of asked_of specs i s _ c.loop-index-test.true c.index-specs-index.is
          c.loop-index.invariant (λ a both. (rw w.if-has.false at c.has.ensures) both.1))
    ]
