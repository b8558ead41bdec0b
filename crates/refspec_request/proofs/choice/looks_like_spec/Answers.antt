-- No other look is that of a spec.
use Rattle.refspec_request.proofs.WordLemmas.{doubt_no_spec, no_test, plain_no_spec, url_no_spec}
use Rattle.refspec_request.proofs.choice.looks_like_spec.Goals as goal

pub returns-in-Url : goal.returns-in-Url
returns-in-Url c = no_test _ (url_no_spec c.args.argument.now c.in-Url.ensures)

pub returns-in-Either : goal.returns-in-Either
returns-in-Either c = no_test _ (doubt_no_spec c.args.argument.now c.in-Either.ensures)

pub returns-in-Plain : goal.returns-in-Plain
returns-in-Plain c = no_test _ (plain_no_spec c.args.argument.now c.in-Plain.ensures)
