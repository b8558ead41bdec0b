use Rattle.gix_refspec_lint.proofs.Common.{map, mapped_of, ref_of}
use Rattle.gix_refspec_lint.proofs.lemmas.FoundLemmas.{both_named}
use Rattle.gix_refspec_lint.proofs.lemmas.IdleLemmas.{explains_invalid, is_at_work, shows_duplicate, shows_excluded}
use Rattle.gix_refspec_lint.proofs.lemmas.IndexLemmas.{reading_at}
use Rattle.gix_refspec_lint.proofs.idle.idle_beside.Goals as goal

pub returns-in_default : goal.returns-in_default
returns-in_default c g is free =
    let none = explains_invalid g _ is.completed c.args.others _ _
    (reading_at _ _ c.index-group-index.result c.requires.0) _ _ free (map ref_of c.as_slice-items.result.now)
    (rw c.as_slice-items.ensures.value
    (both_named _ _ _ _ (rw c.new-items.ensures.items at c.in_ok-add_item.ensures) c.in_ok-add_names.ensures))
    (rw c.in_default.is at c.in_ok-mapping.ensures) in
    (none, tt)

pub returns-in-Some-excluding : goal.returns-in-Some-excluding
returns-in-Some-excluding c g is free =
    let (n, named, (r, here, by)) = c.in-Some-excluding.ensures g is in
    shows_excluded g _ is.completed c.args.others _ _
    (reading_at _ _ c.index-group-index.result c.requires.0) _ _ free (map ref_of c.as_slice-items.result.now)
    (rw c.as_slice-items.ensures.value
    (both_named _ _ _ _ (rw c.new-items.ensures.items at c.in_ok-add_item.ensures) c.in_ok-add_names.ensures))
    (mapped_of c.in-Some.mapping).destination (rw c.in-Some.is at c.in_ok-mapping.ensures) n c.in-Some-excluding.spec r
    named here by

pub returns-in-None : goal.returns-in-None
returns-in-None c g is free =
    is_at_work g _ is.completed c.args.others _ _ (reading_at _ _ c.index-group-index.result c.requires.0) _ _ free
    (map ref_of c.as_slice-items.result.now)
    (rw c.as_slice-items.ensures.value
    (both_named _ _ _ _ (rw c.new-items.ensures.items at c.in_ok-add_item.ensures) c.in_ok-add_names.ensures))
    (mapped_of c.in-Some.mapping).destination (rw c.in-Some.is at c.in_ok-mapping.ensures)
    (c.in_default-excluding.ensures g is)
    (rw (c.in-None.is, c.name_of-destination.ensures) at (c.in_ok-first_of.ensures g is))

pub returns : goal.returns
returns c g is free =
    let found = rw (c.in-Some-2.is, c.name_of-destination.ensures) at (c.in_ok-first_of.ensures g is) in
    shows_duplicate g _ is.completed c.args.others _ _
    (reading_at _ _ c.index-group-index.result c.requires.0) _ _ free (map ref_of c.as_slice-items.result.now)
    (rw c.as_slice-items.ensures.value
    (both_named _ _ _ _ (rw c.new-items.ensures.items at c.in_ok-add_item.ensures) c.in_ok-add_names.ensures))
    (mapped_of c.in-Some.mapping).destination (rw c.in-Some.is at c.in_ok-mapping.ensures)
    (c.in_default-excluding.ensures g is) _ found.0 found.1
