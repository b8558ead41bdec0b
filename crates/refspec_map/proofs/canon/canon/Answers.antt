-- Each iteration answers the first line of the rest; at the end no line is left.
use Rattle.refspec_map.proofs.OutputLemmas.{Completes-line, Completes-end}
use Rattle.refspec_map.proofs.canon.canon.Goals as goal
use Rattle.gix_refspec_text.proofs.lemmas.lists.EmptyLemmas.{full_from_test, empty_from_test}

pub loop-rest-preserved : goal.loop-rest-preserved
loop-rest-preserved c =
    Completes-line c.args.operation c.args.input.now _ c.append.new.output.items c.loop-rest.rest.now
    c.first_line.result.0.now c.first_line.result.1.now c.loop-rest.refusal _ c.in_ok-answer.answer
    (full_from_test c.loop-rest.rest.now c.loop-rest-test.ensures) c.first_line.ensures c.in_ok-answer.ensures.ok
    c.in_ok-append.ensures.ok c.is_refused-refusal.ensures c.loop-rest.invariant

pub returns-clause-ok : goal.returns-clause-ok
returns-clause-ok c = Completes-end c.args.operation c.args.input.now c.loop-rest.output.items c.loop-rest.refusal
    c.loop-rest.rest.now (empty_from_test c.loop-rest.rest.now c.loop-rest-test.ensures) c.loop-rest.invariant
