-- the roles so far are those of the specs
use Rattle.std.proofs.Common.{map, take}
use Rattle.gix_refspec.specs.Views.Spec.{reading_of}
use Rattle.refspec_commands.specs.Locals.{AreRoles}
use Rattle.refspec_commands.proofs.fates.roles.roles_of.Given as goal

abbrev pub invariant-loop-index : goal.invariant-loop-index
invariant-loop-index l =
    AreRoles l.lookup.question.now l.lookup.sources.now (map reading_of (take l.index l.specs)) l.roles.items
