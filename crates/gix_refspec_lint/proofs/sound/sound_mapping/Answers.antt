use Rattle.gix_refspec_lint.proofs.Common.{length, map, map-id, sym, ◌∙◌, rules, YieldsList-from_vec, YieldsList-end}
use Rattle.gix_refspec_lint.proofs.Common.{YieldsList-turn, reading_of, ref_of, start_of}
use Rattle.gix_refspec_lint.proofs.lemmas.OneSpecLemmas.{none_sound, sound_there}
use Rattle.gix_refspec_lint.proofs.sound.sound_mapping.Goals as goal

pub returns-then-is_sound : goal.returns-then-is_sound
returns-then-is_sound c =
    let ms = c.in_ok-mapping-items.mapping-items.items in
    let turn = YieldsList-turn (YieldsList-from_vec {s = c.into_iter-mapping-iterator.result} ms (search rules)
    (search rules))
    c.loop-mapping.yielded c.loop-mapping.mapping-iterator c.loop-mapping.yielded_by c.next.result c.next.new.self
    c.in-Some.mapping c.in-Some.is c.next.ensures.steps in
    sound_there (reading_of c.args.spec) (map ref_of c.args.items.now) ms (length c.loop-mapping.yielded)
    c.in-Some.mapping (start_of c.args.source.now) (rw c.as_slice.ensures at c.in_ok-mapping-items.ensures) turn.0
    turn.1
    (c.same_source.ensures.0 c.if-same_source.true) (c.is_sound.ensures.0 c.if-is_sound.true)

pub returns : goal.returns
returns c =
    let ms = c.in_ok-mapping-items.mapping-items.items in
    let all = YieldsList-end (YieldsList-from_vec {s = c.into_iter-mapping-iterator.result} ms (search rules)
    (search rules)) c.loop-mapping.yielded c.loop-mapping.mapping-iterator c.loop-mapping.yielded_by c.next.result
    c.next.new.self c.in-None.is c.next.ensures.steps in
    none_sound _ _ _ _ (rw c.as_slice.ensures at c.in_ok-mapping-items.ensures)
    (rw (sym (map-id c.loop-mapping.yielded) ∙ all.0) at c.loop-mapping.invariant)
