-- The name of the key is compared.
use Rattle.std.proofs.Common.{◌≡◌, codes}
use Rattle.refspec_request.proofs.SettingLemmas.{key_where, same_bytes}
use Rattle.refspec_request.proofs.remotes.is_of_remote.Goals as goal

pub returns-in-Some : goal.returns-in-Some
returns-in-Some c = key_where (codes "remote") c.args.setting.now.key.now c.in-Some.other.now c.in-Some.field-0-1.now
    (λ other variable. other ≡ c.args.name.now) c.eq.result c.in-Some.ensures
    (same_bytes c.in-Some.other.now c.args.name.now c.eq.result c.eq.ensures)
