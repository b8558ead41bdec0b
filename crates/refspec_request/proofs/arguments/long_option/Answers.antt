-- What precedes the first `=` is the name.
use Rattle.std.proofs.Common.{◌∙◌, inr, refl, sym}
use Rattle.refspec_request.proofs.arguments.long_option.Goals as goal

pub returns-in-Some-valued_named : goal.returns-in-Some-valued_named
returns-in-Some-valued_named c =
    (c.in-Some.name.now, sym c.valued_named.ensures ∙ c.in-Some-valued_named.is, c.in-Some.ensures.0)

pub returns-in-Some-switch_named : goal.returns-in-Some-switch_named
returns-in-Some-switch_named c = (
  refl,
  c.in-Some.name.now,
  c.in-Some.value.now,
  c.in-Some-switch_named.field-0,
  sym c.switch_named.ensures ∙ c.in-Some-switch_named.is,
  c.in-Some.ensures.0,
)

pub returns-in-None-switch_named : goal.returns-in-None-switch_named
returns-in-None-switch_named c = (
  refl,
  c.in-Some.name.now,
  (c.in-Some.ensures.1, inr (c.in-Some.value.now, c.in-Some.ensures.0)),
  sym c.valued_named.ensures ∙ c.in-None-valued_named.is,
  sym c.switch_named.ensures ∙ c.in-None-switch_named.is,
)
