-- The settings are those of the name.
use Rattle.std.proofs.Common.{◌∙◌, ap, codes, refl}
use Rattle.gix_refspec_text.proofs.readers.Texts.{Lacks-tested}
use Rattle.refspec_request.specs.Settings.{value_of_last}
use Rattle.refspec_git.specs.Branches.{value_of_first}
use Rattle.refspec_git.proofs.BranchLemmas.{settings_named}
use Rattle.refspec_git.proofs.branches.Values.branch_of.Goals as goal

pub returns : goal.returns
returns c = λ settings are. record {
  named = refl;
  remote = c.last_of.ensures
      ∙ ap value_of_last (settings_named (codes "branch") (codes "remote") c.args.name.now settings
      c.args.self.now.remotes (Lacks-tested 46 (codes "remote") refl) are.remotes);
  merge = c.first_of.ensures
      ∙ ap value_of_first (settings_named (codes "branch") (codes "merge") c.args.name.now settings
      c.args.self.now.merges (Lacks-tested 46 (codes "merge") refl) are.merges);
}
