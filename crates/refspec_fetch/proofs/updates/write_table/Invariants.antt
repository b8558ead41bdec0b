-- the lines of the updates so far were written
use Rattle.std.proofs.Common.{map, take}
use Rattle.gix_refspec_plan.specs.Views.Plan.{planned_of}
use Rattle.refspec_fetch.specs.Updates.{AddsUpdateLines}
use Rattle.refspec_fetch.specs.Verdicts.{written_of}
use Rattle.refspec_fetch.proofs.updates.write_table.Given as goal

abbrev pub invariant-loop-update : goal.invariant-loop-update
invariant-loop-update l = AddsUpdateLines l.texts (written_of (map planned_of (take l.update-index l.updates)))
    l.fn.out.items l.out.items
