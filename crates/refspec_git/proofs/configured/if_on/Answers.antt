-- A setting that isn't true is off.
use Rattle.std.proofs.Common.{inr, refl}
use Rattle.refspec_git.proofs.ConfiguredLemmas.{off}
use Rattle.refspec_git.proofs.configured.if_on.Goals as goal

pub returns-else-is_true : goal.returns-else-is_true
returns-else-is_true c = inr (off c.args.setting c.if-is_true.ensures, refl)
