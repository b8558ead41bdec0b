use Rattle.refspec_request.proofs.WordLemmas.{word_tested}
use Rattle.refspec_request.proofs.choice.has_word.Goals as goal

pub returns : goal.returns
returns c = word_tested c.args.word.now c.args.text.now c.contains_str.result c.contains_str.ensures
