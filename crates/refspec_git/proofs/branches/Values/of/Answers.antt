-- Both are settings by name.
use Rattle.refspec_git.proofs.branches.Values.of.Goals as goal

pub returns : goal.returns
returns c = record { remotes = c.in_ok-values_by_name.ensures; merges = c.in_ok-values_by_name-2.ensures }
