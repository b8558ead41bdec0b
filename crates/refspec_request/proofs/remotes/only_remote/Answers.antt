-- The first remote is the only one, unless there is another.
use Rattle.std.proofs.Common.{refl}
use Rattle.refspec_request.proofs.RemoteLemmas.{not_only, only_one}
use Rattle.refspec_request.proofs.SettingLemmas.{not_so}
use Rattle.refspec_request.proofs.remotes.only_remote.Goals as goal

pub returns-in_err-name : goal.returns-in_err-name
returns-in_err-name c = rw c.from_residual.ensures (λ name only. c.in_err-name.ensures name only.0)

pub returns-then-has_other : goal.returns-then-has_other
returns-then-has_other c = λ name. not_only c.args.settings.now c.in_ok-name.name.now name c.in_ok-name.ensures
    (c.if-has_other.ensures.0 refl)

pub returns : goal.returns
returns c = only_one c.args.settings.now c.in_ok-name.name.now c.in_ok-name.ensures (not_so _ c.if-has_other.ensures)
