-- The configured specs over what the given ones took.
use Rattle.gix_refspec_plan.proofs.Common.{map, ap, ◌∙◌, map-append, ref_of, IsTracked, asked_of, reading_of}
use Rattle.gix_refspec_plan.proofs.lemmas.plan.SpecLemmas.{some_mapped}

pub returns : Rattle.gix_refspec_plan.proofs.specs.track.Goals.returns
returns c = IsTracked.by_call (map asked_of c.in_ok-specs.specs.items) (map asked_of c.in_ok-negative.negative.items)
    (map ref_of c.in_ok-taken.taken.items.items)
    (some_mapped reading_of c.args.wish.now.given.now c.is_empty.result c.is_empty.ensures c.if-is_empty.false)
    c.in_ok-specs.ensures c.in_ok-negative.ensures
    (ap (map asked_of) c.in_ok-append.ensures.items ∙ map-append asked_of c.in_ok-specs.specs.items
    c.in_ok-negative.negative.items)
    c.in_ok-taken.ensures
    (rw (c.in_ok-mappings.ensures, ← c.as_slice-2.ensures.value, ← c.as_slice-4.ensures.value) c.in_ok-borrowed.ensures)
