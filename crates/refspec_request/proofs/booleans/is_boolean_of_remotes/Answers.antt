-- The variable of the key is tested.
use Rattle.std.proofs.Common.{codes}
use Rattle.refspec_request.specs.Booleans.{IsRemoteBoolean}
use Rattle.refspec_request.proofs.SettingLemmas.{key_where}
use Rattle.refspec_request.proofs.booleans.is_boolean_of_remotes.Goals as goal

pub returns-in-Some : goal.returns-in-Some
returns-in-Some c = key_where (codes "remote") c.args.setting.now.key.now c.in-Some.field-0-0.now c.in-Some.variable.now
    (λ name variable. IsRemoteBoolean variable) c.is_boolean_variable.result c.in-Some.ensures
    c.is_boolean_variable.ensures
