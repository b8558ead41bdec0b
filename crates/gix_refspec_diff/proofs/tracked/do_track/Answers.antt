use Rattle.gix_refspec_diff.proofs.Common.{ap, arith, inl, inr, length, map, sym}
use Rattle.gix_refspec_lint.proofs.Common.{eqb-false, eqb-true, length-map, nil_from_length}
use Rattle.gix_refspec_diff.proofs.lemmas.TrackedLemmas.{nothing_found, something_found, tracking_free}
use Rattle.gix_refspec_diff.specs.Views.Difference.{pair_example_of}
use Rattle.gix_refspec_diff.proofs.tracked.do_track.Goals as goal

pub compared-requires-clause-old : goal.compared-requires-clause-old
compared-requires-clause-old c =
    rw c.as_slice.ensures.value (tracking_free _ _ c.in_ok-one.ensures c.args.letter c.requires.old)

pub compared-requires-clause-new : goal.compared-requires-clause-new
compared-requires-clause-new c =
    rw c.as_slice-2.ensures.value (tracking_free _ _ c.in_ok-other.ensures c.args.letter c.requires.new)

pub returns-then-not-is_empty : goal.returns-then-not-is_empty
returns-then-not-is_empty c =
    let pairs = rw (c.as_slice.ensures.value, c.as_slice-2.ensures.value) at c.in_ok-pairs.ensures in
    let lost = c.in_ok-pairs.pairs.lost in
    something_found _ _ _ _ c.in_ok-one.ensures c.in_ok-other.ensures _ _ pairs.lost pairs.gained
    (inl (λ none. omega (
      arith,
      ap length none,
      length-map lost.items pair_example_of,
      lost.ok.0,
      lost.ok.1,
      eqb-false _ 0 (sym c.if-not-is_empty.ensures),
    )))

pub returns-then-not-is_empty-2 : goal.returns-then-not-is_empty-2
returns-then-not-is_empty-2 c =
    let pairs = rw (c.as_slice.ensures.value, c.as_slice-2.ensures.value) at c.in_ok-pairs.ensures in
    let gained = c.in_ok-pairs.pairs.gained in
    something_found _ _ _ _ c.in_ok-one.ensures c.in_ok-other.ensures _ _ pairs.lost pairs.gained
    (inr (λ none. omega (
      arith,
      ap length none,
      length-map gained.items pair_example_of,
      gained.ok.0,
      gained.ok.1,
      eqb-false _ 0 (sym c.if-not-is_empty-2.ensures),
    )))

pub returns : goal.returns
returns c =
    let pairs = rw (c.as_slice.ensures.value, c.as_slice-2.ensures.value) at c.in_ok-pairs.ensures in
    let lost = c.in_ok-pairs.pairs.lost in
    let gained = c.in_ok-pairs.pairs.gained in
    nothing_found _ _ _ _ c.in_ok-one.ensures c.in_ok-other.ensures _ _ pairs.lost pairs.gained
    (ap (map pair_example_of)
    (nil_from_length lost.items
    (omega (arith, eqb-true _ 0 (sym c.if-not-is_empty.ensures), lost.ok.0, lost.ok.1))))
    (ap (map pair_example_of)
    (nil_from_length gained.items
    (omega (arith, eqb-true _ 0 (sym c.if-not-is_empty-2.ensures), gained.ok.0, gained.ok.1))))
