use Rattle.gix_refspec_lint.proofs.{Common.{inr, sym, ◌∙◌, reading_of, accepted_few}, lemmas.FoundLemmas.parts_next}
use Rattle.gix_refspec_lint.proofs.conflicts.parts_in.Goals as goal

pub parts_of-requires : goal.parts_of-requires
parts_of-requires c x is = accepted_few (reading_of c.spec-item.result) x c.spec-item.result.accepted
    (inr (sym c.destination.ensures ∙ is))

pub loop-spec-preserved : goal.loop-spec-preserved
loop-spec-preserved c = parts_next c.args.specs.now c.loop-spec.spec-index c.spec-item.result _ _ _
    c.loop-spec-test.true c.spec-item.is c.loop-spec.invariant (rw c.destination.ensures at c.parts_of.ensures)
    c.in_ok-push.ensures.items
