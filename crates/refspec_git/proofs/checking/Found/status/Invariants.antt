-- the status is the greatest so far
use Rattle.std.proofs.Common.{◌≡◌, take, ℕ}
use Rattle.refspec_git.specs.Checking.{IsOwnStatus, greatest}
use Rattle.refspec_git.proofs.checking.Found.status.Given as goal

abbrev pub invariant-loop-refusal : goal.invariant-loop-refusal
invariant-loop-refusal l = (own : ℕ) × IsOwnStatus l.request.strict l.self own
    × (l.status ≡ greatest own (take l.refusal-index l.refusal-items))
