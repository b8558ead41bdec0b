use Rattle.gix_refspec_diff.proofs.Common.{arith, map, reading_of, ref_of, same_Some, slice_get_within, start_of, subst}
use Rattle.gix_refspec_diff.proofs.Common.{sym, zero, ◌∙◌}
use Rattle.gix_refspec_lint.proofs.Common.{HasPlainSource, length-map}
use Rattle.gix_refspec_lint.proofs.lemmas.IndexLemmas.{reading_at}
use Rattle.gix_refspec_diff.proofs.lemmas.MergeLemmas.{excluded_unmerged, merged, plain_merged, unmerged}
use Rattle.gix_refspec_diff.proofs.merged.merges_over.Goals as goal

pub returns-then-not-has_plain_first : goal.returns-then-not-has_plain_first
returns-then-not-has_plain_first c g is m =
    c.if-not-has_plain_first.ensures
    (plain_merged g _ is.completed (map ref_of c.args.items.now) (start_of c.args.source.now) m)

pub returns-in_default : goal.returns-in_default
returns-in_default c g is =
    let (n, named, (r, here, by)) = c.in_default.ensures g is in
    excluded_unmerged g _ _ _ n r named here by

pub bounds-group-0 : goal.bounds-group-0
bounds-group-0 c =
    let (r, at, plain) = c.if-not-has_plain_first.ensures in
    omega (arith, length-map c.args.group.now.specs.now reading_of, slice_get_within _ zero r at)

pub returns-in_default-2 : goal.returns-in_default-2
returns-in_default-2 c g is =
    let specs = c.args.group.now.specs.now in
    let (r, at, plain) = c.if-not-has_plain_first.ensures in
    let here = reading_at specs 0 c.index-group-0.result
    (omega (arith, length-map specs reading_of, slice_get_within _ zero r at)) in
    unmerged g _ is.completed _ here _ _ (rw c.in_default-2.is at c.in_ok-sound_mapping.ensures)

pub returns : goal.returns
returns c g is =
    let specs = c.args.group.now.specs.now in
    let (r, at, plain) = c.if-not-has_plain_first.ensures in
    let here = reading_at specs 0 c.index-group-0.result
    (omega (arith, length-map specs reading_of, slice_get_within _ zero r at)) in
    merged g _ is.completed _ here _ _ _ (subst HasPlainSource (same_Some _ _ (sym at ∙ here)) plain)
    (rw c.in-Some.is at c.in_ok-sound_mapping.ensures) (c.in-None.ensures g is)
