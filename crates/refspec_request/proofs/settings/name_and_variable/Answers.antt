-- What follows the section is split at its last dot.
use Rattle.refspec_request.proofs.SettingLemmas.{key_split}
use Rattle.refspec_request.proofs.settings.name_and_variable.Goals as goal

pub returns : goal.returns
returns c = key_split c.args.section.now c.args.key.now c.in_ok-rest.rest.now c.split_at_last.result
    c.in_ok-rest.ensures c.split_at_last.ensures
