-- A setting is passed where it needs no value, or isn't a bad boolean.
use Rattle.std.proofs.lemmas.Bool.{false≢true}
use Rattle.refspec_git.proofs.StopsLemmas.{passes_bare, passes_valued}
use Rattle.refspec_git.proofs.stops.refusal_of.Goals as goal
use Rattle.refspec_git.proofs.stops.refusal_of.Goals.{in_default-via-in-None+else-needs_value}
use Rattle.refspec_git.proofs.stops.refusal_of.Goals.{in_default-via-in-Some+else-is_boolean}
use Rattle.refspec_git.proofs.stops.refusal_of.Goals.{in_default-via-in-Some+then-is_boolean+else-is_bad}

pub returns-in_default : goal.returns-in_default
returns-in_default c = elim c.in_default.branch [
  | in_default-via-in-None+else-needs_value w ↦
      passes_bare c.args.command c.args.setting.now w.in-None.is
      (λ needs. false≢true (w.if-needs_value.ensures.1 needs))
  | in_default-via-in-Some+then-is_boolean+else-is_bad w ↦
      passes_valued c.args.command c.args.setting.now w.in-Some.value w.in-Some.is (λ is. w.if-is_bad.ensures)
  | in_default-via-in-Some+else-is_boolean w ↦
      passes_valued c.args.command c.args.setting.now w.in-Some.value w.in-Some.is
      (λ is. absurd (false≢true (w.if-is_boolean.ensures.1 is)))
]
