-- none so far fetches the ref alone
use Rattle.std.proofs.Common.{take}
use Rattle.std.specs.List.{All}
use Rattle.refspec_git.specs.Fates.{IsAlone}
use Rattle.refspec_git.proofs.fates.takes_alone.Given as goal

abbrev pub invariant-loop-update : goal.invariant-loop-update
invariant-loop-update l = All (λ u. ¬ (IsAlone l.name u)) (take l.update-index l.updates)
