-- the pieces of the updates so far were written
use Rattle.std.proofs.Common.{◌≡◌, ◌++◌, flat_map, map, take}
use Rattle.gix_refspec_plan.specs.Views.Plan.{planned_of}
use Rattle.refspec_fetch.specs.Updates.{update_object}
use Rattle.refspec_fetch.specs.Verdicts.{written_of}
use Rattle.refspec_fetch.proofs.updates.write_objects.Given as goal

abbrev pub invariant-loop-update : goal.invariant-loop-update
invariant-loop-update l = l.out.items ≡ l.fn.out.items ++ flat_map (update_object l.texts)
    (written_of (map planned_of (take l.update-index l.updates)))
