-- the command takes the options so far
use Rattle.std.proofs.Common.{take}
use Rattle.std.specs.List.{All}
use Rattle.refspec_request.specs.Arguments.{Takes}
use Rattle.refspec_request.proofs.arguments.check_switches.Given as goal

abbrev pub invariant-loop-switch : goal.invariant-loop-switch
invariant-loop-switch l = All (Takes l.command) (take l.switch-index l.switches)
