-- The first mapping to a destination, or another one.
use Rattle.std.proofs.Common.{Option, refl, subst, sym}
use Rattle.gix_refspec_c.specs.declared.validating.Claim.{Claim}
use Rattle.gix_refspec_c.specs.Validating.{IsClaim, mapped_in}
use Rattle.gix_refspec_c.proofs.ValidatingLemmas.{claim_more, claim_new}
use Rattle.gix_refspec_c.proofs.validating.claim_with.Goals as goal

pub returns-in-None : goal.returns-in-None
returns-in-None c l long are to = claim_new l (mapped_in c.args.pair.now) c.args.destination.now _ (sym long) refl refl
    to (subst (λ (known : Option Claim). IsClaim l c.args.destination.now known) (sym c.in-None.ensures.value)
    (are c.args.destination.now))

pub returns-in-Some : goal.returns-in-Some
returns-in-Some c l long are to =
    claim_more l (mapped_in c.args.pair.now) c.args.destination.now c.in-Some.known.now c.claim_beside.result
    c.claim_beside.ensures.first c.claim_beside.ensures.source c.claim_beside.ensures.contested to
    (subst (λ (known : Option Claim). IsClaim l c.args.destination.now known) (sym c.in-Some.ensures.value)
    (are c.args.destination.now))
