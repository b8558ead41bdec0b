-- A text is refused, or all are specs.
use Rattle.std.proofs.Common.{inl, inr, refl, subst}
use Rattle.refspec_io.specs.Read.{AreGood, HasBad}
use Rattle.refspec_commands.proofs.checking.Answer.status.Goals as goal

pub returns-then-has_bad : goal.returns-then-has_bad
returns-then-has_bad c = inl (refl, subst HasBad c.as_slice.ensures.value (rw c.if-has_bad.true at c.has_bad.ensures))

pub returns-else-has_bad : goal.returns-else-has_bad
returns-else-has_bad c = inr (refl, subst AreGood c.as_slice.ensures.value (rw c.if-has_bad.false at c.has_bad.ensures))
