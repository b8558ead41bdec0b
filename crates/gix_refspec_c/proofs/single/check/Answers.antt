-- A text that was read has a reading.
use Rattle.gix_refspec.specs.Views.Spec.{reading_of}
use Rattle.gix_refspec_c.proofs.single.check.Goals as goal

pub returns-clause-ok : goal.returns-clause-ok
returns-clause-ok c = (reading_of c.in_ok-read.field-0, c.in_ok-read.ensures.ok)
