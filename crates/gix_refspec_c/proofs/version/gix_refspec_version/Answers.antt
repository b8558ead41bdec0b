-- The version is the text before the NUL.
use Rattle.std.proofs.Common.{refl}
use Rattle.gix_refspec_c.specs.Explanation.{version}
use Rattle.gix_refspec_c.proofs.version.gix_refspec_version.Goals as goal

pub returns-clause-text : goal.returns-clause-text
returns-clause-text c = c.before_nul.ensures version refl
