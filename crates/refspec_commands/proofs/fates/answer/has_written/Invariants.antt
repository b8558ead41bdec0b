-- no spec so far fetches the ref
use Rattle.std.proofs.Common.{take}
use Rattle.refspec_commands.specs.Fates.{WritesNone}
use Rattle.refspec_commands.proofs.fates.answer.has_written.Given as goal

abbrev pub invariant-loop-effect : goal.invariant-loop-effect
invariant-loop-effect l = WritesNone (take l.effect-index l.effects)
