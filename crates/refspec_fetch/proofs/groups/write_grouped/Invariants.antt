-- the lines of the updates so far were written, and before is the origin of the last one that is
use Rattle.std.proofs.Common.{map, take}
use Rattle.gix_refspec_plan.specs.Views.Plan.{planned_of}
use Rattle.refspec_fetch.specs.Verdicts.{written_of}
use Rattle.refspec_fetch.proofs.GroupLemmas.{GroupedSoFar}
use Rattle.refspec_fetch.proofs.groups.write_grouped.Given as goal

abbrev pub invariant-loop-update : goal.invariant-loop-update
invariant-loop-update l = GroupedSoFar l.table.texts.now (written_of (map planned_of (take l.update-index l.updates)))
    l.before
    l.fn.out.items l.out.items
