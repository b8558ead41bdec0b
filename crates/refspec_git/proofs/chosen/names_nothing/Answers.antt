-- Neither `--remote`, nor arguments.
use Rattle.refspec_git.proofs.ChosenLemmas.{none_tested}
use Rattle.refspec_git.proofs.chosen.names_nothing.Goals as goal

pub returns-then-names_remote : goal.returns-then-names_remote
returns-then-names_remote c = λ nothing. c.if-names_remote.ensures nothing.0

pub returns : goal.returns
returns c = none_tested c.args.request.now c.as_slice-arguments.result.now c.is_empty.result c.if-names_remote.ensures
    c.as_slice-arguments.ensures.value c.is_empty.ensures
