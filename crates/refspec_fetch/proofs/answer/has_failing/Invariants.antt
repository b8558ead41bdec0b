-- the updates so far don't fail
use Rattle.std.proofs.Common.{◌≡◌, [], map, take}
use Rattle.gix_refspec_plan.specs.Views.Plan.{planned_of}
use Rattle.refspec_fetch.specs.Verdicts.{failing_of}
use Rattle.refspec_fetch.proofs.answer.has_failing.Given as goal

abbrev pub invariant-loop-update : goal.invariant-loop-update
invariant-loop-update l = failing_of (map planned_of (take l.update-index l.updates)) ≡ []
