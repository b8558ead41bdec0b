-- The matchers' hits make most of the mappings, and what is kept of these is kept of all.
use Rattle.gix_refspec_match.proofs.Common.{refl, First}
use Rattle.gix_refspec_match.proofs.lemmas.duplicates.FlagLemmas.{ok_weaker}
use Rattle.gix_refspec_match.proofs.lemmas.keep.EngineLemmas.{adds_both, both_sound, kept_hits, objects_made}
use Rattle.gix_refspec_match.proofs.lemmas.keep.EngineLemmas.{sound_among}
use Rattle.gix_refspec_match.proofs.match_forward.Goals as goal

pub map_forward-requires : goal.map_forward-requires
map_forward-requires c = rw c.as_slice-list.ensures.value
    (both_sound _ _ _ _ _ _ c.in_ok-later.ensures.items c.in_ok-later.ensures.tail
    (sound_among c.in_ok-matchers.matchers _ _ c.in_ok-hits.ensures)).0

pub map_forward-requires-2 : goal.map_forward-requires-2
map_forward-requires-2 c =
    rw c.as_slice-list.ensures.value (both_sound _ _ _ _ _ _ c.in_ok-later.ensures.items c.in_ok-later.ensures.tail
    (sound_among c.in_ok-matchers.matchers _ _ c.in_ok-hits.ensures)).1

pub returns : goal.returns
returns c =
    let ids = rw (c.in_ok-mappings.ensures.items, c.as_slice.ensures.value) at c.in_ok-map_objects.ensures in
    let first = rw (c.as_slice-list.ensures.value, ids, c.in_ok-later.ensures.items) at c.in_ok-map_forward.ensures in
    let adds = adds_both _ _ _ _ _ _ _ _ _ first
    (rw (c.as_slice-list.ensures.value, c.in_ok-later.ensures.tail) at c.in_ok-map_forward-2.ensures) in
    ok_weaker c.without_duplicates.result _ _ (λ kept is.
    let (whole, are, stays) = kept_hits _ First _ _ _ _ _ _ _ c.in_ok-matchers.ensures.matchers c.in_ok-hits.ensures
    c.in_ok-exclusions.ensures.names adds is in
    record {
      all = _;
      forward =
          record {
            ids = _;
            hits = whole;
            are_ids = objects_made 0 _ _ c.in_ok-matchers.ensures.objects;
            are_hits = are;
            all = refl;
          };
      is = stays;
    }) c.without_duplicates.ensures
