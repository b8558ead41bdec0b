-- Each mapping has an update, with the verdict at its place.
use Rattle.gix_refspec_plan.proofs.Common.{◌≡◌, ◌∷◌, [], ap, length, length-append, map, arith, rules, mapped_of}
use Rattle.gix_refspec_plan.proofs.Common.{asked_of}
use Rattle.gix_refspec_plan.proofs.lemmas.plan.JudgeLemmas.{first_more, origin_at, spec_inside}
use Rattle.std.proofs.lemmas.Iterator.{Adapters.YieldsList-from_vec, Consumers.YieldsList-turn}
use Rattle.gix_refspec_plan.proofs.verdicts.first_updates.Goals as goal

pub bounds-asked-mapping : goal.bounds-asked-mapping
bounds-asked-mapping c =
    let ms = c.args.mappings.items in
    let turn = YieldsList-turn (YieldsList-from_vec {s = c.into_iter-mapping-iterator.result} ms (search rules)
    (search rules)) _ _ c.loop-mapping.yielded_by _ c.next.new.self _ c.in-Some.is c.next.ensures.steps in
    spec_inside ms (length c.loop-mapping.yielded) c.in-Some.mapping turn.0 turn.1 c.args.asked.now c.requires.mappings

pub bounds-asked-mapping-in-Some : goal.bounds-asked-mapping-in-Some
bounds-asked-mapping-in-Some c = bounds-asked-mapping c

pub offset_bounds-asked-mapping : goal.offset_bounds-asked-mapping
offset_bounds-asked-mapping c = let below = bounds-asked-mapping c in search rules

pub bounds-verdicts-len : goal.bounds-verdicts-len
bounds-verdicts-len c =
    let ms = c.args.mappings.items in
    let updates = c.loop-mapping.updates in
    let turn = YieldsList-turn (YieldsList-from_vec {s = c.into_iter-mapping-iterator.result} ms (search rules)
    (search rules)) _ _ c.loop-mapping.yielded_by _ c.next.new.self _ c.in-Some.is c.next.ensures.steps in
    omega (
      arith,
      c.requires.verdicts,
      turn.0,
      c.loop-mapping.invariant.1,
      c.len-in-loop-mapping.ensures,
      updates.ok.0,
      updates.ok.1,
    )

pub loop-mapping-preserved : goal.loop-mapping-preserved
loop-mapping-preserved c =
    let asked = c.args.asked.now in
    let ms = c.args.mappings.items in
    let m = c.in-Some.mapping in
    let updates = c.loop-mapping.updates in
    let turn = YieldsList-turn (YieldsList-from_vec {s = c.into_iter-mapping-iterator.result} ms (search rules)
    (search rules)) _ _ c.loop-mapping.yielded_by _ c.next.new.self _ c.in-Some.is c.next.ensures.steps in
    let at : c.len-in-loop-mapping.result ≡ length updates.items =
    omega (arith, c.len-in-loop-mapping.ensures, updates.ok.0, updates.ok.1) in (
      (λ seconds all. first_more seconds ms c.loop-mapping.yielded m (map asked_of asked) c.args.verdicts.now
          updates.items _ _ _ _ _ turn (c.loop-mapping.invariant.0 seconds all) c.loop-mapping.invariant.1 all at
          (origin_at asked (mapped_of m) c.index-asked-mapping.result
          (spec_inside ms (length c.loop-mapping.yielded) m turn.0 turn.1 asked c.requires.mappings))
          c.in_ok-update_of.ensures c.in_ok-push.ensures.items),
      omega (
        arith,
        ap length c.in_ok-push.ensures.items,
        length-append updates.items (c.in_ok-update_of.field-0 ∷ []),
        length-append c.loop-mapping.yielded (m ∷ []),
        c.loop-mapping.invariant.1,
      ),
    )
