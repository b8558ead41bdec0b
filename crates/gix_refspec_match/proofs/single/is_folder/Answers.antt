use Rattle.gix_refspec_match.proofs.Common.{arith, common_steps, pointwise_decides, Decides-eqb}
use Rattle.gix_refspec_match.proofs.single.is_folder.Goals as goal

pub returns-then-eq-3 : goal.returns-then-eq-3
returns-then-eq-3 c = grind (
  arith,
  common_steps,
  c.if-is_empty.branch,
  c.if-eq.branch,
  c.if-eq-2.branch,
  pointwise_decides,
  Decides-eqb,
)
