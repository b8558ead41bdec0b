use Rattle.gix_refspec_match.proofs.Common.{rules, arith, List, ◌≡◌, ℕ, ◌++◌, ◌<◌, length, map, take, drop, ◌+◌, get_or}
use Rattle.gix_refspec_match.proofs.Common.{slice_set, append_assoc, ltb-false, drop_more, get_or_at, get_or_past}
use Rattle.gix_refspec_match.proofs.Common.{map_more, set_at, map_long}

one_written : {X : Type 0} (f : X → X) (now old : List X) (i : ℕ) (d x : X) → i < length old → x ≡ f (get_or now i d)
    → now ≡ map f (take i old) ++ drop i old → slice_set now i x ≡ map f (take (i + 1) old) ++ drop (i + 1) old
one_written f now old i d x below is so_far =
    let front = map f (take i old) in
    let y = get_or old i d in
    let rest = drop (i + 1) old in
    let long = map_long f old i below in
    rw (
      is,
      so_far,
      drop_more old i d below,
      get_or_at front y rest d i long,
      set_at front y rest (f y) i long,
      map_more f old i d below,
      append_assoc,
    )

pub loop-hit-preserved : Rattle.gix_refspec_match.proofs.hits.turn_back.Goals.loop-hit-preserved
loop-hit-preserved c =
    first_of (
      grind (arith, one_written, get_or_past, ltb-false, c.loop-hit-test.true, c.loop-hit.invariant),
      search (rules, one_written, get_or_past, ltb-false, c.loop-hit-test.true, c.loop-hit.invariant),
    )
