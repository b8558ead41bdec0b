-- By the owner of the option.
use Rattle.std.proofs.Common.{◌∙◌, Bor, List, ap, option_map, refl, sym, ℕ}
use Rattle.refspec_request.specs.declared.arguments.Subcommand.{Subcommand}
use Rattle.refspec_request.proofs.ArgumentLemmas.{owned, unowned}
use Rattle.refspec_request.proofs.SettingLemmas.{not_so}
use Rattle.refspec_request.proofs.arguments.check_switch.Goals as goal

abbrev shown : Bor (List ℕ) × Subcommand → List ℕ × Subcommand
shown o = (o.0.now, o.1)

pub returns-in-None : goal.returns-in-None
returns-in-None c = unowned c.args.command c.args.switch (sym (ap (option_map shown) c.in-None.is) ∙ c.owner.ensures)

pub returns-then-is_same : goal.returns-then-is_same
returns-then-is_same c = owned c.args.command c.in-Some.owner c.args.switch c.in-Some.told.now
    (sym (ap (option_map shown) c.in-Some.is) ∙ c.owner.ensures)
    (c.if-is_same.ensures.0 refl)

pub returns-else-is_same : goal.returns-else-is_same
returns-else-is_same c = (
  c.in-Some.owner,
  sym c.owner.ensures ∙ ap (option_map shown) c.in-Some.is,
  not_so _ c.if-is_same.ensures,
  c.name.ensures,
)
