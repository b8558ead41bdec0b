use Rattle.gix_refspec_why.proofs.Common.{map, bstr_bytes, reading_of, ref_of}
use Rattle.gix_refspec_why.proofs.fates.fates_of.Goals as goal

pub effects_of-requires : goal.effects_of-requires
effects_of-requires c = rw (c.as_slice-2.ensures.value, c.as_slice-3.ensures.value)
    (rw c.as_slice.ensures.value at c.in_ok-earlier.ensures)

pub returns : goal.returns
returns c =
    let refs = map ref_of c.args.items.now in
    c.effects_of.ensures (map reading_of c.args.specs.now) refs (bstr_bytes c.args.name)
    (rw c.as_bytes.ensures at (c.in_ok-group.ensures refs c.requires.kept))
    (rw c.as_slice-2.ensures.value c.in_ok-attempts.ensures)
