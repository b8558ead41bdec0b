use Rattle.std.proofs.Common.{ℕ, List, take}
use Rattle.refspec_request.specs.Remotes.{IsConfigured}
use Rattle.refspec_request.proofs.remotes.first_remote.Given as goal

-- no remote so far
abbrev pub invariant-loop-setting : goal.invariant-loop-setting
invariant-loop-setting l = (name : List ℕ) → ¬ (IsConfigured (take l.setting-index l.settings) name)
