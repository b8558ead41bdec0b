-- By the options that are given.
use Rattle.std.proofs.Common.{refl}
use Rattle.refspec_request.proofs.SettingLemmas.{not_so}
use Rattle.refspec_request.proofs.arguments.Options.form.Goals as goal

pub returns-then-has : goal.returns-then-has
returns-then-has c = c.if-has.ensures.0 refl

pub returns-then-has-2 : goal.returns-then-has-2
returns-then-has-2 c = (not_so _ c.if-has.ensures, c.if-has-2.ensures.0 refl)

pub returns : goal.returns
returns c = (not_so _ c.if-has.ensures, not_so _ c.if-has-2.ensures)
