-- no spec of a remote so far was left out
use Rattle.std.proofs.Common.{◌≡◌, [], take}
use Rattle.std.specs.List.{All}
use Rattle.refspec_commands.proofs.tracking.answer.has_left_out.Given as goal

abbrev pub invariant-loop-remote : goal.invariant-loop-remote
invariant-loop-remote l = All (λ t. t.left_out.items ≡ []) (take l.remote-index l.remotes)
