-- The name is tested, if there is one.
use Rattle.refspec_request.proofs.ArgumentLemmas.{names_nothing, names_none}
use Rattle.refspec_request.proofs.arguments.Options.names_nothing.Goals as goal

pub returns-in-None : goal.returns-in-None
returns-in-None c = names_none c.args.self.now.remote c.in-None.is

pub returns-in-Some : goal.returns-in-Some
returns-in-Some c =
    names_nothing c.args.self.now.remote c.in-Some.name c.is_empty.result c.in-Some.is c.is_empty.ensures
