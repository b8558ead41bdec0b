-- Without a file there is no form of its own.
use Rattle.std.proofs.Common.{inr, refl}
use Rattle.std.proofs.lemmas.Bool.{iff_false}
use Rattle.refspec_git.proofs.BranchLemmas.{no_folder}
use Rattle.refspec_git.proofs.branches.old_form.Goals as goal

pub returns-then-not-is_in_file : goal.returns-then-not-is_in_file
returns-then-not-is_in_file c = inr (no_folder c.args.remote.now c.args.repository.now.old.now
    (iff_false c.if-not-is_in_file.ensures refl))
