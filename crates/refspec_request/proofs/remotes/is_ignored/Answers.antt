-- The name of the key is tested.
use Rattle.std.proofs.Common.{codes}
use Rattle.gix_refspec_text.specs.Texts.Words.{BeginsWith}
use Rattle.refspec_request.proofs.SettingLemmas.{key_where}
use Rattle.refspec_request.proofs.remotes.is_ignored.Goals as goal

pub returns-in-Some : goal.returns-in-Some
returns-in-Some c = key_where (codes "remote") c.args.setting.now.key.now c.in-Some.name.now c.in-Some.field-0-1.now
    (λ name variable. BeginsWith (codes "/") name) c.begins_with_slash.result c.in-Some.ensures
    c.begins_with_slash.ensures
