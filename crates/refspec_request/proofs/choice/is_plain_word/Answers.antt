-- No other look is that of a plain word.
use Rattle.refspec_request.proofs.WordLemmas.{doubt_no_plain, no_test, spec_no_plain, url_no_plain}
use Rattle.refspec_request.proofs.choice.is_plain_word.Goals as goal

pub returns-in-Spec : goal.returns-in-Spec
returns-in-Spec c = no_test _ (spec_no_plain c.args.argument.now c.in-Spec.ensures)

pub returns-in-Url : goal.returns-in-Url
returns-in-Url c = no_test _ (url_no_plain c.args.argument.now c.in-Url.ensures)

pub returns-in-Either : goal.returns-in-Either
returns-in-Either c = no_test _ (doubt_no_plain c.args.argument.now c.in-Either.ensures)
