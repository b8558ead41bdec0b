-- The key isn't one of refspecs.
use Rattle.refspec_io.proofs.settings.lacks_value.Goals as goal

pub returns-in-None : goal.returns-in-None
returns-in-None c = λ lacks. c.in-None.ensures lacks.0 lacks.1
