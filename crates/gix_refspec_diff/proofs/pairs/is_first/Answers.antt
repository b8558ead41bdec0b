use Rattle.gix_refspec_diff.proofs.Common.{arith}
use Rattle.gix_refspec_diff.proofs.pairs.is_first.Goals as goal

pub returns-in-None : goal.returns-in-None
returns-in-None c g is h below = (rw c.in-None.is at (c.in_ok-first_of.ensures g is)) h (omega arith, below)

pub returns-in-Some : goal.returns-in-Some
returns-in-Some c g is = let found = rw c.in-Some.is at (c.in_ok-first_of.ensures g is) in (_, found.0.1, found.1)
