-- The variable of the key is tested.
use Rattle.std.proofs.Common.{codes}
use Rattle.refspec_request.specs.Needed.{IsNeededOfBase}
use Rattle.refspec_request.proofs.SettingLemmas.{key_where}
use Rattle.refspec_request.proofs.needed.is_of_base.Goals as goal

pub returns-in-Some : goal.returns-in-Some
returns-in-Some c = key_where (codes "url") c.args.key.now c.in-Some.field-0-0.now c.in-Some.variable.now
    (λ name variable. IsNeededOfBase variable) c.is_needed_of_base.result c.in-Some.ensures c.is_needed_of_base.ensures
