use Rattle.gix_refspec.proofs.Common.{◌≤◌, ◌-◌, length, map, drop, reading_of, mapped_of, conflict_of}
use Rattle.gix_refspec.proofs.lemmas.validate.ConflictLemmas.{AreReported}
use Rattle.gix_refspec.proofs.match_group.validate.conflicts.issues_among.Given as goal

abbrev pub invariant-loop-at : goal.invariant-loop-at
invariant-loop-at l =
    (l.at ≤ length l.firsts)
    × AreReported (map reading_of l.specs) (map mapped_of l.mappings) (drop l.at l.firsts)
    (map conflict_of l.issues.items)

abbrev pub decreases-loop-at : goal.decreases-loop-at
decreases-loop-at l = length l.firsts - l.at
