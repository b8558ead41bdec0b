-- All are, or the set is looked at.
use Rattle.refspec_git.proofs.ChosenLemmas.{all_among, some_among}
use Rattle.refspec_git.proofs.chosen.is_among.Goals as goal

pub returns-in-None : goal.returns-in-None
returns-in-None c = all_among c.args.remotes.now c.args.name.now c.in-None.is

pub returns-in-Some : goal.returns-in-Some
returns-in-Some c = some_among c.args.remotes.now c.in-Some.names c.args.name.now c.contains.result c.in-Some.is
    c.contains.ensures
