-- The specs are those of the remotes, and no others.
use Rattle.refspec_git.proofs.upstreams.Specs.of.Goals as goal

pub returns : goal.returns
returns c = (c.in_ok-specs_by_remote.ensures, c.new.ensures.items)
