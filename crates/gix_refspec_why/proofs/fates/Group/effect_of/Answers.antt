use Rattle.gix_refspec_why.proofs.Common.{sym, subst, refl, mapped_of, AttemptsTo, HasFate}
use Rattle.gix_refspec_why.proofs.lemmas.GroupLemmas.{own_fate}
use Rattle.gix_refspec_why.proofs.fates.Group.effect_of.Goals as goal

pub returns-in-Stops : goal.returns-in-Stops
returns-in-Stops c g refs n k r is made at earlier =
    own_fate g refs n k r c.in-Stops.fate (rw c.in-Stops.is at made)

pub returns-in_ok-owned_destination-in-Maps : goal.returns-in_ok-owned_destination-in-Maps
returns-in_ok-owned_destination-in-Maps c g refs n k r is made at earlier =
    let d = (mapped_of c.in-Maps.mapping).destination in
    let (source, maps) = rw c.in-Maps.is at made in
    subst (λ d. HasFate g refs n k r d c.fate_of.result) (sym c.in_ok-owned_destination-in-Maps.ensures)
    (c.fate_of.ensures g refs n k r is source maps at (earlier d (subst (AttemptsTo d) (sym c.in-Maps.is) refl)))
