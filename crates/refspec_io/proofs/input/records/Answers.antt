-- Each iteration splits off the first record of the rest; at the end the rest is empty.
use Rattle.refspec_io.proofs.RecordLemmas.{Completes-start, Completes-more, Completes-end}
use Rattle.refspec_io.proofs.input.records.Goals as goal
use Rattle.gix_refspec_text.proofs.lemmas.lists.EmptyLemmas.{full_from_test, empty_from_test}

pub loop-rest-init : goal.loop-rest-init
loop-rest-init c = Completes-start c.args.end c.new-records.result.items c.args.input.now c.new-records.ensures.items

pub returns : goal.returns
returns c = Completes-end c.args.end c.loop-rest.records.items c.loop-rest.rest.now c.args.input.now
    (empty_from_test c.loop-rest.rest.now c.loop-rest-test.ensures) c.loop-rest.invariant

pub loop-rest-preserved : goal.loop-rest-preserved
loop-rest-preserved c = Completes-more c.args.end c.loop-rest.records.items c.push.new.self.items
    c.first_record.result.0 c.loop-rest.rest.now c.first_record.result.1.now c.args.input.now
    (full_from_test c.loop-rest.rest.now c.loop-rest-test.ensures) c.first_record.ensures c.in_ok-push.ensures.items
    c.loop-rest.invariant
