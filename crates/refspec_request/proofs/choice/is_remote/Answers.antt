-- By the looks, with `--` and without it.
use Rattle.std.proofs.Common.{inl, inr, subst, arith}
use Rattle.refspec_request.specs.Choices.{PrecedesDashes}
use Rattle.refspec_request.proofs.ChoiceLemmas.{has_dashes, none_precedes}
use Rattle.refspec_request.proofs.SettingLemmas.{not_so}
use Rattle.refspec_request.proofs.choice.is_remote.Goals as goal

pub returns-in-Spec : goal.returns-in-Spec
returns-in-Spec c = (not_so _ c.if-knows.ensures, (λ p. subst PrecedesDashes c.in-None.is p), inl c.in-Spec.ensures)

pub returns-in-Url : goal.returns-in-Url
returns-in-Url c = inr (inr (inl c.in-Url.ensures))

pub returns-in-Plain : goal.returns-in-Plain
returns-in-Plain c = inr (inr (inr (c.in-None.is, c.in-Plain.ensures)))

pub returns-in-Url-looks : goal.returns-in-Url-looks
returns-in-Url-looks c = inr (inr (inl c.in-Url-looks.ensures))

pub returns-in-Spec-looks : goal.returns-in-Spec-looks
returns-in-Spec-looks c = (
  not_so _ c.if-knows.ensures,
  none_precedes c.args.dashes c.in-Some-eq0.field-0 c.in-Some-eq0.is
      (omega (arith, c.in-Some-eq0.field-0-test)),
  inl c.in-Spec-looks.ensures,
)

pub returns-in-Plain-looks : goal.returns-in-Plain-looks
returns-in-Plain-looks c = (
  not_so _ c.if-knows.ensures,
  none_precedes c.args.dashes c.in-Some-eq0.field-0 c.in-Some-eq0.is
      (omega (arith, c.in-Some-eq0.field-0-test)),
  inr (has_dashes c.args.dashes c.in-Some-eq0.field-0 c.in-Some-eq0.is, inr c.in-Plain-looks.ensures),
)

pub returns-in-Either-looks : goal.returns-in-Either-looks
returns-in-Either-looks c = (
  not_so _ c.if-knows.ensures,
  none_precedes c.args.dashes c.in-Some-eq0.field-0 c.in-Some-eq0.is
      (omega (arith, c.in-Some-eq0.field-0-test)),
  inr (has_dashes c.args.dashes c.in-Some-eq0.field-0 c.in-Some-eq0.is, inl c.in-Either-looks.ensures),
)
