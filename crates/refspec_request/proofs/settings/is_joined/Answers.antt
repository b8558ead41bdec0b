-- The key is compared part by part.
use Rattle.std.proofs.Common.{◌∙◌}
use Rattle.refspec_request.proofs.SettingLemmas.{by_variable, no_name}
use Rattle.refspec_request.proofs.settings.is_joined.Goals as goal

pub returns-in-None : goal.returns-in-None
returns-in-None c = no_name c.args.key.now c.args.section.now c.args.name.now c.args.variable.now c.in-Some.rest.now
    c.in-Some.ensures c.in-None.ensures

pub returns-in-Some-strip_part : goal.returns-in-Some-strip_part
returns-in-Some-strip_part c = c.eq.ensures
    ∙ by_variable c.args.key.now c.args.section.now c.args.name.now c.args.variable.now c.in-Some.rest.now
    c.in-Some-strip_part.last.now c.in-Some.ensures c.in-Some-strip_part.ensures
