-- The matchers' hits make most of the mappings, and what is kept of these is kept of all.
use Rattle.gix_refspec_match.proofs.Common.{[], refl, All}
use Rattle.gix_refspec_match.proofs.lemmas.duplicates.FlagLemmas.{ok_weaker}
use Rattle.gix_refspec_match.proofs.lemmas.keep.EngineLemmas.{adds_both, both_sound, kept_hits, others_there}
use Rattle.gix_refspec_match.proofs.lemmas.keep.EngineLemmas.{sound_among}
use Rattle.gix_refspec_match.proofs.match_backward.Goals as goal

pub map_backward-requires : goal.map_backward-requires
map_backward-requires c = rw c.as_slice-list.ensures.value (record {
  sound = (both_sound _ _ _ _ _ _ c.in_ok-later.ensures.items c.in_ok-later.ensures.tail
      (sound_among c.in_ok-matchers.matchers _ _ c.in_ok-hits.ensures)).0;
  others = others_there _ c.in_ok-matchers.matchers c.in_ok-matchers.ensures;
})

pub map_backward-requires-2 : goal.map_backward-requires-2
map_backward-requires-2 c = rw c.as_slice-list.ensures.value (record {
  sound = (both_sound _ _ _ _ _ _ c.in_ok-later.ensures.items c.in_ok-later.ensures.tail
      (sound_among c.in_ok-matchers.matchers _ _ c.in_ok-hits.ensures)).1;
  others = others_there _ c.in_ok-matchers.matchers c.in_ok-matchers.ensures;
})

pub returns : goal.returns
returns c =
    let first = rw (c.as_slice-list.ensures.value, c.in_ok-mappings.ensures.items, c.in_ok-later.ensures.items) at
    c.in_ok-map_backward.ensures in
    let adds = adds_both _ _ _ _ _ _ _ _ _ first
    (rw (c.as_slice-list.ensures.value, c.in_ok-later.ensures.tail) at c.in_ok-map_backward-2.ensures) in
    ok_weaker c.without_duplicates.result _ _ (λ kept is.
    let (whole, are, stays) = kept_hits _ All _ _ [] _ _ _ _ c.in_ok-matchers.ensures c.in_ok-hits.ensures
    c.in_ok-exclusions.ensures.names adds is in
    record { all = _; backward = record { hits = whole; are_hits = are; all = refl }; is = stays })
    c.without_duplicates.ensures
