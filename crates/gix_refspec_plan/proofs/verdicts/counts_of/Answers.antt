use Rattle.gix_refspec_plan.proofs.Common.{map, take, mapped_of, map_more}
use Rattle.gix_refspec_plan.proofs.lemmas.plan.JudgeLemmas.{count_same, counted_more}
use Rattle.gix_refspec_plan.proofs.verdicts.counts_of.Goals as goal

pub loop-mapping-preserved : goal.loop-mapping-preserved
loop-mapping-preserved c =
    let i = c.loop-mapping.mapping-index in
    let m = c.mapping-item.result in
    let before = map mapped_of (take i c.args.mappings.now) in
    rw (map_more mapped_of c.args.mappings.now i m c.loop-mapping-test.true, ← c.mapping-item.is)
    (elim c.match-sound_destination.branch [
      | goal.in-Some+in_ok-insert w ↦ rw w.counts-is
          (counted_more before (mapped_of m) c.loop-mapping.counts w.insert.new.self w.in-Some.destination
          w.contains_key-several.result c.loop-mapping.invariant
          w.in-Some.ensures w.contains_key-several.ensures w.in_ok-insert.ensures.updates)
      | goal.in_default w ↦
          rw w.counts-is (λ d. count_same before (mapped_of m) d _ (w.in_default.ensures d)
          (c.loop-mapping.invariant d))
    ])
