-- the branches are those of the entries so far
use Rattle.std.proofs.Common.{List, map}
use Rattle.std.specs.Map.Iter.{deref_pair}
use Rattle.refspec_io.specs.declared.settings.Setting.{Setting}
use Rattle.refspec_git.specs.Branches.{AreBranchesIn, AreOfBranches}
use Rattle.refspec_git.proofs.branches.Values.all.Given as goal

abbrev pub invariant-loop-name : goal.invariant-loop-name
invariant-loop-name l = (settings : List Setting) → AreOfBranches settings l.self
    → AreBranchesIn settings (map deref_pair l.yielded) l.branches.items
