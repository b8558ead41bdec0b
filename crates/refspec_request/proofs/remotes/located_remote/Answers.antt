-- There is one name that may be located.
use Rattle.std.proofs.Common.{List, ℕ, refl, subst}
use Rattle.refspec_request.specs.Remotes.{IsLocated}
use Rattle.refspec_request.proofs.RemoteLemmas.{only_once}
use Rattle.refspec_request.proofs.SettingLemmas.{not_so}
use Rattle.refspec_request.proofs.remotes.located_remote.Goals as goal

pub returns-then-is_located : goal.returns-then-is_located
returns-then-is_located c = (c.only_or_origin-name.ensures, c.if-is_located.ensures.0 refl)

pub returns : goal.returns
returns c = λ name is found. not_so _ c.if-is_located.ensures
    (subst (λ (n : List ℕ). IsLocated c.args.settings.now c.args.files.now n)
    (only_once c.args.settings.now name c.only_or_origin-name.result.now is c.only_or_origin-name.ensures) found)
