use Rattle.gix_refspec_plan.proofs.Common.{◌++◌, Contains-append_right, length, map, take_all, arith, rules, ◌+◌}
use Rattle.gix_refspec_plan.proofs.Common.{mapped_of, asked_of}
use Rattle.gix_refspec_plan.proofs.lemmas.plan.JudgeLemmas.{planned_copy, has_mapping, known_here, origin_at}
use Rattle.gix_refspec_plan.proofs.lemmas.plan.JudgeLemmas.{second_next, second_same, spec_inside}
use Rattle.gix_refspec_plan.proofs.verdicts.second_updates.Goals as goal

pub bounds-specs-mapping : goal.bounds-specs-mapping
bounds-specs-mapping c = spec_inside c.args.mappings.now c.loop-index.index c.index-mappings-index.result
    c.loop-index-test.true c.index-mappings-index.is c.args.specs.now c.requires.mappings

pub bounds-specs-mapping-then-is_new : goal.bounds-specs-mapping-then-is_new
bounds-specs-mapping-then-is_new c = spec_inside c.args.mappings.now c.loop-index.index c.index-mappings-index.result
    c.loop-index-test.true c.index-mappings-index.is c.args.specs.now c.requires.mappings

pub offset_bounds-specs-mapping : goal.offset_bounds-specs-mapping
offset_bounds-specs-mapping c = let below = bounds-specs-mapping c in search rules

pub loop-index-preserved : goal.loop-index-preserved
loop-index-preserved c =
    let specs = c.args.specs.now in
    let xs = c.args.firsts.now in
    let ms = c.args.mappings.now in
    let i = c.loop-index.index in
    let m = c.index-mappings-index.result in
    let known = known_here ms i m c.loop-index-test.true c.index-mappings-index.is xs c.args.repeated.now
    c.requires.repeated in
    let has = has_mapping ms i m c.loop-index-test.true c.index-mappings-index.is in
    elim c.if-is_new.branch [
      | goal.then-is_new+in_ok-copy+in_ok-update_of+in_ok-push w ↦ rw w.updates-is
          (second_next ms i m c.loop-index.updates.items c.loop-index-test.true c.index-mappings-index.is
          (map asked_of specs) c.args.indexes.now (map mapped_of xs) (map mapped_of ms) c.loop-index.invariant
          c.args.repeated.now (length xs + i) known c.is_new.result c.is_new.ensures _ _ _ _ _ w.if-is_new.true
          w.index_among_all-item_index.ensures
          (origin_at specs (mapped_of m) w.index-specs-mapping.result
          (spec_inside ms i m c.loop-index-test.true c.index-mappings-index.is specs c.requires.mappings))
          (w.verdict_on-verdict.ensures (map mapped_of xs) (map mapped_of ms) (map mapped_of xs ++ map mapped_of ms)
          c.requires.winning c.in_ok-contested.ensures c.requires.nested c.requires.mappings.apart has
          (Contains-append_right (map mapped_of xs) (map mapped_of ms) (mapped_of m) has))
          (planned_copy m w.in_ok-copy.copy _ _ _ _ w.in_ok-copy.ensures.keeps w.in_ok-update_of.ensures)
          w.in_ok-push.ensures.items)
      | goal.else-is_new w ↦ rw w.updates-is
          (second_same ms i m c.loop-index.updates.items c.loop-index-test.true c.index-mappings-index.is
          (map asked_of specs) c.args.indexes.now (map mapped_of xs) (map mapped_of ms) c.loop-index.invariant
          c.args.repeated.now (length xs + i) known c.is_new.result c.is_new.ensures w.if-is_new.false)
    ]

pub returns : goal.returns
returns c = rw (take_all c.loop-index.index c.args.mappings.now (omega arith)) at c.loop-index.invariant
