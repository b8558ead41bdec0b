-- the groups of the texts so far
use Rattle.std.proofs.Common.{map, take}
use Rattle.refspec_commands.specs.WarnedViews.{AreGroups, seen_of}
use Rattle.refspec_commands.proofs.warnings.group.groups_of.Given as goal

abbrev pub invariant-loop-checked : goal.invariant-loop-checked
invariant-loop-checked l = AreGroups (map seen_of (take l.checked-index l.all)) l.groups
