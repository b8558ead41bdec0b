use Rattle.gix_refspec_why.proofs.Common.{◌<◌, ◌+◌, ◌∷◌, [], ◌∙◌, None, arith, refl, sym, ap, subst, length, map}
use Rattle.gix_refspec_why.proofs.Common.{map-append, take, take_all, get_or, slice_get-get_or, slice_get_read}
use Rattle.gix_refspec_why.proofs.Common.{effect_of, HaveFatesIn, IsAttempt}
use Rattle.gix_refspec_why.proofs.lemmas.AttemptLemmas.{attempt_at}
use Rattle.gix_refspec_why.proofs.lemmas.GroupLemmas.{fates_more}
use Rattle.gix_refspec_plan.proofs.lemmas.plan.NameLemmas.{zip_long}
use Rattle.gix_refspec_why.proofs.fates.Group.effects_of.Goals as goal

pub bounds-earlier-index : goal.bounds-earlier-index
bounds-earlier-index c = omega (arith, c.requires.count, c.loop-index-test.true)

pub loop-index-preserved : goal.loop-index-preserved
loop-index-preserved c g refs n is are =
    let attempts = c.args.attempts.now in
    let earlier = c.args.earlier.now in
    let i = c.loop-index.index in
    let a = c.index-attempts-index.result in
    let old = c.loop-index.effects.items in
    let e = c.in_ok-effect_of.field-0 in
    let below : i < length earlier = omega (arith, c.requires.count, c.loop-index-test.true) in
    let (r, there, made, first) = attempt_at g refs n attempts earlier i a (get_or earlier i None) are c.requires
    (slice_get_read attempts (length attempts) i a refl c.loop-index-test.true c.index-attempts-index.is)
    (slice_get-get_or earlier i None below) in
    subst (HaveFatesIn g refs n (take (i + 1) g))
    (sym (ap (map effect_of) c.in_ok-push.ensures.items ∙ map-append effect_of old (e ∷ [])))
    (fates_more g refs n i r (map effect_of old) (effect_of e) there (c.loop-index.invariant g refs n is are)
    (c.in_ok-effect_of.ensures g refs n i r is made there first))

pub returns : goal.returns
returns c g refs n is are =
    let long = zip_long (λ r a. IsAttempt refs r n a) g c.args.attempts.now are in
    subst (λ l. HaveFatesIn g refs n l (map effect_of c.loop-index.effects.items))
    (take_all c.loop-index.index g (omega (arith, long, c.loop-index-test.false)))
    (c.loop-index.invariant g refs n is are)
