-- The name and the variable of the key are tested.
use Rattle.std.proofs.Common.{codes, refl, sym, ◌∙◌}
use Rattle.std.proofs.lemmas.Bool.{false≢true}
use Rattle.refspec_request.proofs.SettingLemmas.{key_where}
use Rattle.refspec_git.specs.Chosen.{HoldsSpecs, IsAmong}
use Rattle.refspec_git.proofs.chosen.is_value_of.Goals as goal

pub returns-then-is_among : goal.returns-then-is_among
returns-then-is_among c = key_where (codes "remote") c.args.setting.now.key.now c.in-Some.name.now
    c.in-Some.variable.now (λ name variable. IsAmong c.args.remotes.now name × HoldsSpecs variable)
    c.holds_specs.result c.in-Some.ensures (
      (λ so. (c.if-is_among.ensures.0 refl, c.holds_specs.ensures.0 so)),
      λ both. c.holds_specs.ensures.1 both.1,
    )

pub returns-else-is_among : goal.returns-else-is_among
returns-else-is_among c = key_where (codes "remote") c.args.setting.now.key.now c.in-Some.name.now
    c.in-Some.variable.now (λ name variable. IsAmong c.args.remotes.now name × HoldsSpecs variable)
    c.is_among.result c.in-Some.ensures (
      (λ so. absurd (false≢true (sym c.if-is_among.false ∙ so))),
      λ both. c.is_among.ensures.1 both.0,
    )
