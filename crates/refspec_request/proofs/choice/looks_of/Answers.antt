-- Each test rules out what precedes it.
use Rattle.std.proofs.Common.{inl, inr, refl}
use Rattle.gix_refspec_text.proofs.lemmas.texts.TextLemmas.{Lacks-from_absent}
use Rattle.refspec_request.proofs.SettingLemmas.{not_so}
use Rattle.refspec_request.proofs.choice.looks_of.Goals as goal

pub returns-then-is_certainly_spec : goal.returns-then-is_certainly_spec
returns-then-is_certainly_spec c = inl (c.if-is_certainly_spec.ensures.0 refl)

pub returns-then-is_url : goal.returns-then-is_url
returns-then-is_url c = (not_so _ c.if-is_certainly_spec.ensures, c.if-is_url.ensures.0 refl)

pub returns-then-ends_as_spec : goal.returns-then-ends_as_spec
returns-then-ends_as_spec c = inr (not_so _ c.if-is_url.ensures, c.if-ends_as_spec.ensures.0 refl)

pub returns-then-has_word : goal.returns-then-has_word
returns-then-has_word c = (
  not_so _ c.if-is_certainly_spec.ensures,
  not_so _ c.if-is_url.ensures,
  not_so _ c.if-ends_as_spec.ensures,
  c.if-has_word.ensures.0 refl,
)

pub returns : goal.returns
returns c = (
  not_so _ c.if-is_certainly_spec.ensures,
  not_so _ c.if-is_url.ensures,
  Lacks-from_absent 58 c.args.argument.now (not_so _ c.if-has_word.ensures),
)
