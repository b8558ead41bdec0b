-- The struct shows what the library found.
use Rattle.std.proofs.Common.{inl, inr, refl}
use Rattle.gix_refspec_c.proofs.locating.located.Goals as goal

pub returns-in-Some : goal.returns-in-Some
returns-in-Some c = inl (c.in-Some.found, (rw c.new.ensures at c.in-Some.ensures.span), c.shown.ensures)

pub returns-in-None : goal.returns-in-None
returns-in-None c = inr ((rw c.new.ensures at c.in-None.ensures.span), refl)
