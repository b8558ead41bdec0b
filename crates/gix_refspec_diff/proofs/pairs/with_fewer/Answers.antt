use Rattle.gix_refspec_diff.proofs.pairs.with_fewer.Goals.{in-Some, in_default}
use Rattle.gix_refspec_diff.proofs.pairs.with_fewer.Goals as goal

pub loop-left-preserved : goal.loop-left-preserved
loop-left-preserved c g h are included shown =
    let so_far = c.loop-left.invariant g h are included shown in
    elim c.match-branch-3.branch [
      | in-Some w ↦ rw w.example-is
          (rw w.in-Some.is at
          (c.in_ok-found.ensures g h are included
          (c.in_ok-fewer.ensures (rw c.as_slice.ensures.value so_far.beside))))
      | in_default w ↦ rw w.example-is so_far
    ]
