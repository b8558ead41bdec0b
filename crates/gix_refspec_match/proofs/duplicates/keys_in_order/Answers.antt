use Rattle.gix_refspec_match.proofs.Common.{common_steps, arith, length, map, ◌≤◌, length-map, get_or-map}
use Rattle.gix_refspec_match.proofs.lemmas.duplicates.HashKeyLemmas.{packed, sorted_keys, sorted_keys_rise}
use Rattle.gix_refspec_match.proofs.lemmas.duplicates.OrderedLemmas.{numbered_more}
use Rattle.gix_refspec_match.proofs.duplicates.keys_in_order.Goals as goal

pub loop-index-preserved : goal.loop-index-preserved
loop-index-preserved g c =
    grind (
      arith,
      common_steps,
      get_or-map,
      packed,
      numbered_more,
      length-map,
      c.requires.fit,
      c.in_ok-keys.ensures,
      c.hash_by-hash.type_inv,
      c.in_ok-push.ensures.items,
      c.loop-index.invariant,
    )

pub returns : goal.returns
returns g c =
    let hash = g.T.Element.hash c.args.seed in
    let xs = c.args.elements.now in
    let past : length (map hash xs) ≤ c.loop-index.index = omega (arith, length-map xs hash) in
    let has = rw c.as_slice.ensures.value at c.in_ok-shared.ensures in
    let moved = rw c.keep_shared.ensures at c.sort_unstable.ensures.permutation in record {
      all = sorted_keys past c.loop-index.invariant has moved;
      rises = sorted_keys_rise past c.loop-index.invariant has moved c.sort_unstable.ensures.sorted;
    }
