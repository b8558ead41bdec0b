use Rattle.std.proofs.Common.{codes}
use Rattle.refspec_request.proofs.WordLemmas.{ends_tested}
use Rattle.refspec_request.proofs.choice.ends_with_colon.Goals as goal

pub returns : goal.returns
returns c = ends_tested (codes ":") c.args.text.now c.ends_with.result c.ends_with.ensures.value
