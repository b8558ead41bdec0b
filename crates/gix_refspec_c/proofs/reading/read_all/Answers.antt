-- The texts are read one after another, to the first that isn't.
use Rattle.gix_refspec_c.proofs.GroupLemmas.{text_more, text_unread}
use Rattle.gix_refspec_c.proofs.reading.read_all.Goals as goal

pub returns-in-Err-clause-err : goal.returns-in-Err-clause-err
returns-in-Err-clause-err c = text_unread c.args.operation c.args.texts.now c.loop-text.text-index _
    c.loop-text.group.specs.items c.in-Err.failure c.loop-text-test.true c.in-Err.ensures.err c.loop-text.invariant

pub loop-text-preserved : goal.loop-text-preserved
loop-text-preserved c = text_more c.args.operation c.args.texts.now c.loop-text.text-index _
    c.loop-text.group.specs.items c.add.new.group.specs.items c.in-Ok.spec c.loop-text-test.true c.in-Ok.ensures.ok
    c.in_ok-add.ensures.ok c.loop-text.invariant
