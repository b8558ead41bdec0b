-- the sources so far were explained
use Rattle.std.specs.List.{All}
use Rattle.refspec_commands.specs.Locals.{IsSource}
use Rattle.refspec_commands.proofs.fates.roles.sources_of.Given as goal

abbrev pub invariant-loop-name : goal.invariant-loop-name
invariant-loop-name l = All (IsSource l.question) l.sources.items
