-- the lines of the updates at the indexes so far were written
use Rattle.std.proofs.Common.{map, take}
use Rattle.gix_refspec_plan.specs.Views.Plan.{planned_of}
use Rattle.refspec_fetch.specs.Conflicts.{WritesClaims, those_at}
use Rattle.refspec_fetch.proofs.conflicts.write_claims.Given as goal

abbrev pub invariant-loop-index : goal.invariant-loop-index
invariant-loop-index l = WritesClaims l.texts (those_at (map planned_of l.updates) (take l.index-index l.indexes))
    l.fn.out.items l.out.items
