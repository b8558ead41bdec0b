-- no ref has one of the names so far
use Rattle.std.proofs.Common.{take}
use Rattle.std.specs.List.{All}
use Rattle.bstr.specs.Owned.{bstring_bytes}
use Rattle.refspec_git.specs.Fates.{IsUnlisted}
use Rattle.refspec_git.proofs.fates.first_listed.Given as goal

abbrev pub invariant-loop-name : goal.invariant-loop-name
invariant-loop-name l = All (λ n. IsUnlisted l.refs (bstring_bytes n)) (take l.name-index l.names)
