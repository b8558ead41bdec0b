-- the refusals are those of the remotes so far
use Rattle.std.proofs.Common.{take}
use Rattle.refspec_git.specs.Checking.{AreOldForms}
use Rattle.refspec_git.proofs.checking.old_forms.Given as goal

abbrev pub invariant-loop-old : goal.invariant-loop-old
invariant-loop-old l = AreOldForms l.repository (take l.old-index l.old-items) l.refusals.items
