use Rattle.std.proofs.Common.{refl}
use Rattle.gix_refspec_c.specs.Outcome.{done}
use Rattle.gix_refspec_c.proofs.locating.gix_refspec_locate.Goals as goal

pub returns-in-Some : goal.returns-in-Some
returns-in-Some c = done c.in-Some.operation c.in-Some.ensures refl c.located.ensures
