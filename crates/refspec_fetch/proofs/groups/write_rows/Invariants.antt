-- the lines of the updates so far were written
use Rattle.std.proofs.Common.{map, take}
use Rattle.gix_refspec_plan.specs.Views.Plan.{planned_of}
use Rattle.refspec_fetch.specs.Groups.{AddsShort}
use Rattle.refspec_fetch.specs.Verdicts.{written_of}
use Rattle.refspec_fetch.proofs.groups.write_rows.Given as goal

abbrev pub invariant-loop-update : goal.invariant-loop-update
invariant-loop-update l = AddsShort (written_of (map planned_of (take l.update-index l.updates))) l.fn.out.items
    l.out.items
