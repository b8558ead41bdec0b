-- The library finds the wrong bytes.
use Rattle.refspec_io.proofs.blame.blame_of.Goals as goal

pub returns-in_default : goal.returns-in_default
returns-in_default c = (rw c.new.ensures at c.in_default.ensures.span)
