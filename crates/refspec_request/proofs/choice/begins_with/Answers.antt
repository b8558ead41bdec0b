use Rattle.refspec_request.proofs.WordLemmas.{begins_tested}
use Rattle.refspec_request.proofs.choice.begins_with.Goals as goal

pub returns : goal.returns
returns c = begins_tested c.args.start.now c.args.text.now c.starts_with.result c.starts_with.ensures.value
