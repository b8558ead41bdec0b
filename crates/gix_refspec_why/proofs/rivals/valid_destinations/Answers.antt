use Rattle.gix_refspec_why.proofs.Common.{map, map_more, mapped_of, take, take_all}
use Rattle.gix_refspec_plan.proofs.lemmas.plan.JudgeLemmas.{destinations_more, destinations_same}
use Rattle.gix_refspec_why.proofs.rivals.valid_destinations.Goals as goal

pub loop-mapping-preserved : goal.loop-mapping-preserved
loop-mapping-preserved c =
    let i = c.loop-mapping.mapping-index in
    let m = c.mapping-item.result in
    let before = map mapped_of (take i c.args.kept.now) in
    rw (map_more mapped_of c.args.kept.now i m c.loop-mapping-test.true, ← c.mapping-item.is)
    (elim c.match-valid_destination.branch [
      | goal.in-Some+in_ok-push w ↦ rw (w.names-is, w.in_ok-push.ensures.items)
          (destinations_more before (mapped_of m) c.loop-mapping.names.items w.in-Some.destination w.in-Some.ensures
          c.loop-mapping.invariant)
      | goal.in_default w ↦
          rw w.names-is (destinations_same before (mapped_of m) c.loop-mapping.names.items w.in_default.ensures
          c.loop-mapping.invariant)
    ])

pub returns : goal.returns
returns c = rw (take_all c.loop-mapping.mapping-index c.args.kept.now c.loop-mapping-test.false) at
    c.loop-mapping.invariant
