-- A name that doesn't pass is no key, and to the list of a key the place is added.
use Rattle.gix_refspec_match.proofs.Common.{refl, sym, rules, Passes, list_of}
use Rattle.gix_refspec_match.proofs.lemmas.index.IndexLemmas.{item_listed, item_unlisted, all_at}
use Rattle.gix_refspec_match.proofs.index.places_of.Goals as goal

pub loop-place-preserved-then-not-passes : goal.loop-place-preserved-then-not-passes
loop-place-preserved-then-not-passes c =
    item_unlisted _ c.args.items.now c.loop-place.place _ c.as_bytes-name.result.now _ c.loop-place-test.true
    c.as_bytes-name.ensures
    (search (
      rules,
      c.passes.ensures.1,
      all_at (Passes c.in_ok-filter.filter) _ c.as_bytes-name.result.now
          c.in_ok-filter.ensures.all,
    )) c.loop-place.invariant

pub loop-place-preserved : goal.loop-place-preserved
loop-place-preserved c =
    let old = list_of c.loop-place.places in
    elim c.match-get_mut.branch [
      | goal.in-Some+in_ok-push w ↦
          let updates = (c.get_mut.follows.holds w.push.new.self).3 (rw (← w.in-Some.ensures.value) refl) in
          rw w.places-is
          (item_listed _ c.args.items.now c.loop-place.place _ c.as_bytes-name.result.now w.in-Some.list.now
          w.push.new.self old _ c.loop-place-test.true c.as_bytes-name.ensures
          (sym w.in-Some.ensures.value) w.in_ok-push.ensures.items
          (λ q. updates.0 (record { name = record c.as_bytes-name.result { now = q } })) c.loop-place.invariant)
      | goal.in_default w ↦
          rw (w.places-is, c.get_mut.follows.holds-at-none)
          (item_unlisted _ c.args.items.now c.loop-place.place _ c.as_bytes-name.result.now old
          c.loop-place-test.true c.as_bytes-name.ensures
          (λ there. let at = c.loop-place.invariant.each c.as_bytes-name.result.now there in absurd
          (cc (w.in_default.ensures.value, at.1))) c.loop-place.invariant)
    ]
