-- the arguments so far name branches
use Rattle.std.proofs.Common.{List, take, ℕ}
use Rattle.std.specs.List.{All, AllZip}
use Rattle.refspec_git.specs.Branches.{AreOfBranches, IsNamedBranch, NamesBranch}
use Rattle.refspec_git.proofs.branches.named_in.Given as goal

abbrev pub invariant-loop-argument : goal.invariant-loop-argument
invariant-loop-argument l = (AreOfBranches l.repository.settings.now l.values
    → AllZip (IsNamedBranch l.repository) (take l.argument-index l.arguments) l.branches.items)
    × All (λ a. (name : List ℕ) × NamesBranch l.repository a.now name) (take l.argument-index l.arguments)
