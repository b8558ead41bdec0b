-- What is told of the destination.
use Rattle.std.proofs.Common.{Option, subst, sym, refl, ◌∙◌}
use Rattle.std.proofs.lemmas.Bool.{false≢true}
use Rattle.gix_refspec_c.specs.declared.validating.Claim.{Claim}
use Rattle.gix_refspec_c.specs.Validating.{IsTold}
use Rattle.gix_refspec_c.proofs.validating.conflict_at.Goals as goal

pub returns-in-None : goal.returns-in-None
returns-in-None c l tell =
    let told = subst (λ (known : Option Claim). IsTold l c.args.destination.now known) (sym c.in-None.ensures.value)
    (tell c.args.destination.now) in
    λ at. false≢true (told.contested.1 at)

pub returns-then-known : goal.returns-then-known
returns-then-known c l tell =
    let told = subst (λ (known : Option Claim). IsTold l c.args.destination.now known) (sym c.in-Some.ensures.value)
    (tell c.args.destination.now) in
    (told.contested.0 c.if-known.true, told.first c.in-Some.known.now refl c.if-known.true)

pub returns-else-known : goal.returns-else-known
returns-else-known c l tell =
    let told = subst (λ (known : Option Claim). IsTold l c.args.destination.now known) (sym c.in-Some.ensures.value)
    (tell c.args.destination.now) in
    λ at. false≢true (sym c.if-known.false ∙ told.contested.1 at)
