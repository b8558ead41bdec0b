-- Each iteration reads the first record of the rest; at the end the rest is empty.
use Rattle.std.proofs.Common.{ap, map}
use Rattle.gix_refspec.specs.Views.Group.{ref_of}
use Rattle.refspec_io.specs.Refs.{bad_bytes}
use Rattle.refspec_io.proofs.RefLemmas.{ListsNames-end, ListsNamesSoFar-more, ListsNamesSoFar-start}
use Rattle.refspec_io.proofs.refs.RefList.read.Goals as goal
use Rattle.gix_refspec_text.proofs.lemmas.lists.EmptyLemmas.{full_from_test, empty_from_test}

pub loop-rest-init : goal.loop-rest-init
loop-rest-init c = ListsNamesSoFar-start c.args.end _ _ c.args.input.now (ap (map ref_of) c.new.ensures.items)
    (ap (map bad_bytes) c.new-2.ensures.items)

pub loop-rest-preserved : goal.loop-rest-preserved
loop-rest-preserved c = ListsNamesSoFar-more c.args.end (map ref_of c.loop-rest.reported.items.items)
    (map ref_of c.add.new.self.items.items) (map bad_bytes c.loop-rest.reported.bad.items)
    (map bad_bytes c.add.new.self.bad.items) c.loop-rest.rest.now c.first_record.result.0.now
    c.first_record.result.1.now c.args.input.now (full_from_test c.loop-rest.rest.now c.loop-rest-test.ensures)
    c.first_record.ensures c.in_ok-add.ensures c.loop-rest.invariant

pub returns : goal.returns
returns c = ListsNames-end c.args.end (map ref_of c.loop-rest.reported.items.items)
    (map bad_bytes c.loop-rest.reported.bad.items) c.loop-rest.rest.now c.args.input.now
    (empty_from_test c.loop-rest.rest.now c.loop-rest-test.ensures) c.loop-rest.invariant
