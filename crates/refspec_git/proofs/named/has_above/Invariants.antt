-- the path begins with the name of none so far
use Rattle.std.proofs.Common.{take}
use Rattle.std.specs.List.{All}
use Rattle.refspec_git.specs.Named.{IsAbove}
use Rattle.refspec_git.proofs.named.has_above.Given as goal

abbrev pub invariant-loop-remote : goal.invariant-loop-remote
invariant-loop-remote l = All (λ r. ¬ (IsAbove l.path r)) (take l.remote-index l.remotes)
