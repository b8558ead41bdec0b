-- The option has a value, or none.
use Rattle.refspec_git.proofs.ChosenLemmas.{some_given}
use Rattle.refspec_git.proofs.chosen.names_remote.Goals as goal

pub returns-in-Some : goal.returns-in-Some
returns-in-Some c = some_given c.args.request.now.remote c.in-Some.field-0 c.in-Some.is
