-- no spec so far writes the ref
use Rattle.std.proofs.Common.{take}
use Rattle.refspec_commands.specs.Locals.{WritesNothing}
use Rattle.refspec_commands.proofs.fates.roles.has_writer.Given as goal

abbrev pub invariant-loop-role : goal.invariant-loop-role
invariant-loop-role l = WritesNothing (take l.role-index l.roles)
