-- the claims so far are settled
use Rattle.std.proofs.Common.{◌≤◌, ◌-◌, length, map, drop}
use Rattle.gix_refspec_plan.specs.Views.Plan.{planned_of}
use Rattle.refspec_fetch.specs.Conflicts.{contest_of}
use Rattle.refspec_fetch.proofs.ContestLemmas.{AreSettled}
use Rattle.refspec_fetch.proofs.conflicts.contests_of.Given as goal

abbrev pub invariant-loop-at : goal.invariant-loop-at
invariant-loop-at l =
    (l.at ≤ length l.claims)
    × AreSettled (map planned_of l.updates) (drop l.at l.claims)
    (map (contest_of (map planned_of l.updates)) l.contests.items)

abbrev pub decreases-loop-at : goal.decreases-loop-at
decreases-loop-at l = length l.claims - l.at
