-- The failure reports the error of the library.
use Rattle.gix_refspec_c.proofs.OutcomeLemmas.{unread}
use Rattle.gix_refspec_c.proofs.reading.read.Goals as goal

pub returns-in-Ok-clause-ok : goal.returns-in-Ok-clause-ok
returns-in-Ok-clause-ok c = rw c.new.ensures at c.in-Ok.ensures.ok

pub returns-in-Err-clause-err : goal.returns-in-Err-clause-err
returns-in-Err-clause-err c =
    unread c.args.operation c.args.text.now c.in-Err.error c.failure_of.result
    (rw c.new.ensures at c.in-Err.ensures.refused) (rw c.new.ensures at c.in-Err.ensures.memory)
    c.failure_of.ensures.refusal c.failure_of.ensures.memory
