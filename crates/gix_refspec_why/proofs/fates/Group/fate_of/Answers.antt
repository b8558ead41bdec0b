use Rattle.gix_refspec_why.proofs.Common.{sym, subst, mapped_of, HasFate, IsValidSource}
use Rattle.gix_refspec_why.proofs.Common.{MapsFirst}
use Rattle.gix_refspec_why.proofs.lemmas.GroupLemmas.{duplicate_fate, maps_first}
use Rattle.gix_refspec_why.proofs.fates.Group.fate_of.Goals as goal

pub returns-in-Some-earlier : goal.returns-in-Some-earlier
returns-in-Some-earlier c g refs n k r is source maps at first =
    duplicate_fate g refs n (mapped_of c.args.mapping.now).destination k r
    (record {
      maps = record { maps = maps; included = rw c.in_default.is at is.excluded };
      name = subst IsValidSource source (c.is_valid_source.ensures.0 c.if-not-is_valid_source.false);
      destination = (c.is_sound.ensures.0 c.if-not-is_sound.false).destination;
    })
    c.args.earlier c.in-Some-earlier.spec_index c.in-Some-earlier.is first

pub returns-in-Some-destination_of : goal.returns-in-Some-destination_of
returns-in-Some-destination_of c g refs n k r is source maps at first =
    let d = (mapped_of c.args.mapping.now).destination in
    let own = maps_first g refs n d k r
    (record {
      maps = record { maps = maps; included = rw c.in_default.is at is.excluded };
      name = subst IsValidSource source (c.is_valid_source.ensures.0 c.if-not-is_valid_source.false);
      destination = (c.is_sound.ensures.0 c.if-not-is_sound.false).destination;
    })
    c.args.earlier c.in_default-earlier.is first in
    let here = c.in-Some-destination_of.ensures in
    subst (λ d. HasFate g refs n k r d c.fate_at.result) here
    (c.fate_at.ensures g refs n k r is at (subst (λ d. MapsFirst g refs n d k r) (sym here) own))
