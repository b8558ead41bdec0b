-- the commands so far
use Rattle.std.proofs.Common.{◌≡◌, take}
use Rattle.std.specs.List.{flat_map}
use Rattle.refspec_request.specs.Calls.{requested}
use Rattle.refspec_git.proofs.answer.asks.Given as goal

abbrev pub invariant-loop-call : goal.invariant-loop-call
invariant-loop-call l = l.lines.items ≡ flat_map requested (take l.call-index l.calls)
