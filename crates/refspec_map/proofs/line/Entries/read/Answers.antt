-- Each iteration adds the entry of the first line of the rest, or finds that the line is bad.
use Rattle.std.proofs.lemmas.Result.{err_from_is_err_and}
use Rattle.refspec_map.proofs.EntryLemmas.{Reaches-start, Reaches-line, Reaches-end, Reaches-fault}
use Rattle.refspec_map.proofs.line.Entries.read.Goals as goal
use Rattle.gix_refspec_text.proofs.lemmas.lists.EmptyLemmas.{full_from_test, empty_from_test}

pub loop-rest-init : goal.loop-rest-init
loop-rest-init c = Reaches-start c.args.blank c.args.input.now
    (record { specs = c.new.result; refs = c.new-2.result; items = c.new-3.result }) c.new.ensures.items
    c.new-2.ensures.items c.new-3.ensures.items

pub returns-in_err-add-clause-err : goal.returns-in_err-add-clause-err
returns-in_err-add-clause-err c =
    let p = err_from_is_err_and c.from_residual.result c.from_residual.ensures.1 in
    rw (p.1, p.2) (Reaches-fault c.args.blank c.args.input.now c.loop-rest.entries c.loop-rest.number
    c.loop-rest.rest.now c.first_line.result.0.now c.first_line.result.1.now c.in_err-add.field-0.0
    (full_from_test c.loop-rest.rest.now c.loop-rest-test.ensures) c.first_line.ensures c.in_err-add.ensures.err
    c.loop-rest.invariant)

pub loop-rest-preserved : goal.loop-rest-preserved
loop-rest-preserved c = Reaches-line c.args.blank c.args.input.now c.loop-rest.entries c.add.new.self c.loop-rest.number
    c.loop-rest.rest.now c.first_line.result.0.now c.first_line.result.1.now
    (full_from_test c.loop-rest.rest.now c.loop-rest-test.ensures) c.first_line.ensures c.in_ok-add.ensures.ok
    c.loop-rest.invariant

pub returns-clause-ok : goal.returns-clause-ok
returns-clause-ok c = Reaches-end c.args.blank c.args.input.now c.loop-rest.entries c.loop-rest.number
    c.loop-rest.rest.now (empty_from_test c.loop-rest.rest.now c.loop-rest-test.ensures) c.loop-rest.invariant
