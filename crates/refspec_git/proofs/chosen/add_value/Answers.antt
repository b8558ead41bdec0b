-- A value is added, or nothing.
use Rattle.std.proofs.Common.{refl}
use Rattle.std.proofs.lemmas.Bool.{iff_false}
use Rattle.refspec_git.proofs.ChosenLemmas.{value_added, value_skipped}
use Rattle.refspec_git.proofs.chosen.add_value.Goals as goal

pub returns-then-is_value_of : goal.returns-then-is_value_of
returns-then-is_value_of c = λ settings are.
    value_added c.args.remotes.now settings c.args.values.now.items c.push.new.self.items c.args.setting.now
    c.in_ok-push.ensures.items (c.if-is_value_of.ensures.0 refl) are

pub returns : goal.returns
returns c = λ settings are.
    value_skipped c.args.remotes.now settings c.args.values.now.items c.args.setting.now are
    (iff_false c.if-is_value_of.ensures refl)
