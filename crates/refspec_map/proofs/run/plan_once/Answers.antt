-- By the laws on plans, distinct mappings and fixes have distinct lines.
use Rattle.refspec_map.proofs.PlanOnceLemmas.{plan_once}
use Rattle.refspec_map.proofs.run.plan_once.Goals as goal

pub returns : goal.returns
returns c = plan_once c.plans_apart.ensures c.no_control_character.ensures
