use Rattle.gix_refspec_lint.proofs.Common.{arith, None, refl}
use Rattle.gix_refspec_lint.proofs.lemmas.AlikeLemmas.{earlier_some, element_there}
use Rattle.gix_refspec_lint.proofs.idle.reason_at.Goals as goal

pub bounds-reasons-before : goal.bounds-reasons-before
bounds-reasons-before c =
    let earlier = earlier_some _ _ c.in-Some.before c.in-Some.is c.requires.earlier in
    let before = earlier.before in
    omega (arith, before, c.requires.long)

pub returns-in-None : goal.returns-in-None
returns-in-None c g is are = c.idle_reason.ensures g is

pub returns-in-Some : goal.returns-in-Some
returns-in-Some c g is are =
    let earlier = earlier_some _ _ c.in-Some.before c.in-Some.is c.requires.earlier in
    let before = earlier.before in
    c.reason_behind.ensures g is earlier (are c.in-Some.before _
    (element_there c.args.reasons.now c.in-Some.before _ None (omega (arith, before, c.requires.long)) refl))
