-- The argument is the name.
use Rattle.std.proofs.Common.{◌∙◌, inl, refl, sym}
use Rattle.refspec_request.proofs.arguments.option_named.Goals as goal

pub returns-in-Some : goal.returns-in-Some
returns-in-Some c = sym c.valued_named.ensures ∙ c.in-Some.is

pub returns-in-Some-switch_named : goal.returns-in-Some-switch_named
returns-in-Some-switch_named c = sym c.switch_named.ensures ∙ c.in-Some-switch_named.is

pub returns-in-None-switch_named : goal.returns-in-None-switch_named
returns-in-None-switch_named c = (
  refl,
  c.args.argument.now,
  (c.requires, inl refl),
  sym c.valued_named.ensures ∙ c.in-None.is,
  sym c.switch_named.ensures ∙ c.in-None-switch_named.is,
)
