-- Without specs, or for a plan.
use Rattle.std.proofs.Common.{inl, inr, refl}
use Rattle.refspec_request.proofs.ArgumentLemmas.{none_mapped, some_mapped}
use Rattle.refspec_request.proofs.SettingLemmas.{not_so}
use Rattle.refspec_request.proofs.arguments.check_refmap.Goals as goal

pub returns-then-is_empty : goal.returns-then-is_empty
returns-then-is_empty c = inl (none_mapped c.args.refmap.now c.if-is_empty.ensures)

pub returns-then-is_same : goal.returns-then-is_same
returns-then-is_same c = inr (c.if-is_same.ensures.0 refl)

pub returns : goal.returns
returns c = (
  some_mapped c.args.refmap.now c.if-is_empty.ensures,
  not_so _ c.if-is_same.ensures,
  refl,
  c.name.ensures,
)
