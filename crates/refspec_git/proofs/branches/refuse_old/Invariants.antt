-- the remote of none so far has a file of its own
use Rattle.std.proofs.Common.{take}
use Rattle.std.specs.List.{All}
use Rattle.refspec_git.specs.Branches.{HasNoOldRemote}
use Rattle.refspec_git.proofs.branches.refuse_old.Given as goal

abbrev pub invariant-loop-one : goal.invariant-loop-one
invariant-loop-one l = All (HasNoOldRemote l.repository) (take l.one-index l.branches)
