-- The output for the names of the refs is the output for the refs, by the law `names_decide`.
use Rattle.std.proofs.lemmas.Result.{IfOk-weaker}
use Rattle.refspec_map.specs.Plan.{IsPlan}
use Rattle.refspec_map.proofs.MatchingLemmas.{IsMatching-named, plan_by_name}
use Rattle.refspec_map.proofs.matching.planned.Goals as goal

pub returns-clause-ok : goal.returns-clause-ok
returns-clause-ok c = IfOk-weaker c.plan.result _ _
    (λ made is. IsMatching-named _ IsPlan c.args.input.now _ _ c.in_ok-specs.field-0 c.as_slice-items.result.now
    (plan_by_name _ c.as_slice-items.result.now c.names_decide.ensures) c.in_ok-specs.ensures.ok
    c.as_slice-items.ensures.value is) c.plan.ensures.ok
