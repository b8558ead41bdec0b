-- Each part is that of the branch.
use Rattle.std.proofs.Common.{refl}
use Rattle.refspec_git.proofs.upstreams.merged_by.Goals as goal

pub returns : goal.returns
returns c = λ settings are. record {
  branch = refl;
  remote = refl;
  specs = c.specs_for.ensures settings are;
  name = c.name_or_empty.ensures;
  setup = c.setup_of.ensures;
}
