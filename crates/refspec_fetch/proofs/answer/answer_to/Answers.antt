-- The plan is that of the wish.
use Rattle.std.proofs.Common.{map, refl, subst}
use Rattle.gix_refspec.specs.Views.Group.{ref_of}
use Rattle.gix_refspec_plan.specs.Matching.Plan.{IsPlan, Wish}
use Rattle.gix_refspec_plan.specs.Views.Plan.{planned_of}
use Rattle.refspec_fetch.proofs.answer.answer_to.Goals as goal

pub returns : goal.returns
returns c =
    let refs = map ref_of c.args.question.now.refs.now in
    let plan = c.in_ok-plan.plan in (
      refl,
      record {
        plan = subst (λ (w : Wish). IsPlan w refs (map planned_of plan.updates.items) plan.missing.items) c.wish.ensures
            c.in_ok-plan.ensures;
        found = c.in_ok-stale.ensures;
      },
    )
