use Rattle.gix_refspec_diff.proofs.lemmas.AlikeLemmas.{alike_unless_found}
use Rattle.gix_refspec_diff.proofs.lemmas.LackLemmas.{lack_alike}
use Rattle.gix_refspec_diff.proofs.lemmas.ListLemmas.{free_left, free_right}
use Rattle.gix_refspec_diff.proofs.lemmas.TrackedLemmas.{follow_alike}
use Rattle.gix_refspec_diff.proofs.differences.Goals as goal

pub compared-requires-clause-old : goal.compared-requires-clause-old
compared-requires-clause-old c =
    free_left _ _ _ (rw (c.as_slice.ensures.value, c.in_ok-joined_lists.ensures) at c.in_ok-letter.ensures)

pub compared-requires-clause-new : goal.compared-requires-clause-new
compared-requires-clause-new c =
    free_right _ _ _ (rw (c.as_slice.ensures.value, c.in_ok-joined_lists.ensures) at c.in_ok-letter.ensures)

pub do_track-requires-clause-old : goal.do_track-requires-clause-old
do_track-requires-clause-old c =
    free_left _ _ _ (rw (c.as_slice.ensures.value, c.in_ok-joined_lists.ensures) at c.in_ok-letter.ensures)

pub do_track-requires-clause-new : goal.do_track-requires-clause-new
do_track-requires-clause-new c =
    free_right _ _ _ (rw (c.as_slice.ensures.value, c.in_ok-joined_lists.ensures) at c.in_ok-letter.ensures)

pub returns-clause-alike : goal.returns-clause-alike
returns-clause-alike c =
    let pairs = rw (
      c.as_slice-old.ensures.value,
      c.as_slice-new.ensures.value,
      c.in_ok-old.ensures,
      c.in_ok-new.ensures,
    ) at c.in_ok-lost.ensures in
    alike_unless_found _ _ _ _ pairs.lost pairs.gained

pub returns-clause-lacked_alike : goal.returns-clause-lacked_alike
returns-clause-lacked_alike c =
    lack_alike _ _ _ _
    (rw (c.as_slice-old.ensures.value, c.as_slice-new.ensures.value, c.in_ok-old.ensures, c.in_ok-new.ensures) at
    c.in_ok-lacked_alone.ensures)
    (rw (c.as_slice-old.ensures.value, c.as_slice-new.ensures.value, c.in_ok-old.ensures, c.in_ok-new.ensures) at
    c.in_ok-lacked_alone-2.ensures)

pub returns-clause-tracks : goal.returns-clause-tracks
returns-clause-tracks c =
    rw (c.as_slice-old.ensures.value, c.as_slice-new.ensures.value, c.in_ok-old.ensures, c.in_ok-new.ensures) at
    c.in_ok-do_track.ensures

pub returns-clause-tags : goal.returns-clause-tags
returns-clause-tags c =
    follow_alike _ _ _ _
    (rw (c.as_slice-old.ensures.value, c.in_ok-old.ensures) at c.follow_tags.ensures)
    (rw (c.as_slice-new.ensures.value, c.in_ok-new.ensures) at c.follow_tags-2.ensures)

pub returns-clause-merges : goal.returns-clause-merges
returns-clause-merges c =
    let pairs = rw (
      c.as_slice-old.ensures.value,
      c.as_slice-new.ensures.value,
      c.in_ok-old.ensures,
      c.in_ok-new.ensures,
    ) at c.in_ok-lost.ensures in
    pairs.merges
