-- The name of the key is compared.
use Rattle.std.proofs.Common.{◌≢◌, codes}
use Rattle.refspec_request.proofs.RemoteLemmas.{other_bytes}
use Rattle.refspec_request.proofs.SettingLemmas.{key_where}
use Rattle.refspec_request.proofs.remotes.is_of_other.Goals as goal

pub returns-in-Some : goal.returns-in-Some
returns-in-Some c = key_where (codes "remote") c.args.setting.now.key.now c.in-Some.other.now c.in-Some.field-0-1.now
    (λ other variable. other ≢ c.args.name.now) c.ne.result c.in-Some.ensures
    (other_bytes c.in-Some.other.now c.args.name.now c.ne.result c.ne.ensures)
