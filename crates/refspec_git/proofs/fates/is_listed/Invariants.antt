-- none so far has the name
use Rattle.std.proofs.Common.{take}
use Rattle.refspec_git.specs.Fates.{IsUnlisted}
use Rattle.refspec_git.proofs.fates.is_listed.Given as goal

abbrev pub invariant-loop-listed : goal.invariant-loop-listed
invariant-loop-listed l = IsUnlisted (take l.listed-index l.refs) l.name
