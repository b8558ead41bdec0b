-- Only a matching command has such a fault.
use Rattle.refspec_map.proofs.PlanOnceLemmas.{spec_is_refused}
use Rattle.refspec_map.proofs.run.spec_is_refused.Goals as goal

pub returns : goal.returns
returns c = spec_is_refused
