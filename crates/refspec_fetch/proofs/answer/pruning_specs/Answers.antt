-- A list is empty or it isn't.
use Rattle.refspec_fetch.proofs.AnswerLemmas.{none_of, pruning_configured, pruning_given, some_of}
use Rattle.refspec_fetch.proofs.answer.pruning_specs.Goals as goal

pub returns-then-is_empty : goal.returns-then-is_empty
returns-then-is_empty c = pruning_configured _ _ (none_of _ _ c.is_empty.ensures c.if-is_empty.true)

pub returns-else-is_empty : goal.returns-else-is_empty
returns-else-is_empty c = pruning_given _ _ (some_of _ _ c.is_empty.ensures c.if-is_empty.false)
