-- The option, the name, and then where the argument is.
use Rattle.std.proofs.Common.{inl, inr, refl}
use Rattle.std.proofs.lemmas.Bool.{iff_false}
use Rattle.refspec_git.proofs.chosen.is_remote.Goals as goal

pub returns-then-names_remote : goal.returns-then-names_remote
returns-then-names_remote c = inl c.if-names_remote.ensures

pub returns-then-has_remote : goal.returns-then-has_remote
returns-then-has_remote c = (c.if-names_remote.ensures, c.if-has_remote.ensures.0 refl)

pub returns-then-is_spec_at : goal.returns-then-is_spec_at
returns-then-is_spec_at c = inr (iff_false c.if-has_remote.ensures refl, c.if-is_spec_at.ensures)

pub returns : goal.returns
returns c = (
  refl,
  c.if-names_remote.ensures,
  iff_false c.if-has_remote.ensures refl,
  c.if-is_spec_at.ensures,
)
