-- By each slash of the nested destination.
use Rattle.gix_refspec_lint.proofs.Common.{[], ◌∷◌, slash, refl, ◌∙◌, arith, append_assoc}
use Rattle.gix_refspec_lint.proofs.lemmas.NestFoundLemmas.{holds_all, holds_here, holds_past}
use Rattle.gix_refspec_lint.specs.Private.Nestings.{NoneNested}
use Rattle.gix_refspec_lint.proofs.nestings.nesting_above.Goals.{then-nested-index-eq47+in_ok-found+in_default}
use Rattle.gix_refspec_lint.proofs.nestings.nesting_above.Goals.{else-nested-index-eq47}
use Rattle.gix_refspec_lint.proofs.nestings.nesting_above.Goals as goal

pub returns-in-Some : goal.returns-in-Some
returns-in-Some c g is = rw c.in-Some.is at (c.in_ok-found.ensures g is)

pub loop-index-preserved : goal.loop-index-preserved
loop-index-preserved c g is =
    let two = c.args.two.now in
    elim c.if-nested-index-eq47.branch [
      | then-nested-index-eq47+in_ok-found+in_default w ↦
          holds_here (λ d a. NoneNested g two.upper two.lower d c.args.nested.now) c.args.nested.now c.loop-index.index
          (c.loop-index.invariant g is)
          (λ a cut. (rw w.in_default.is at (w.in_ok-found.ensures g is)) _ _ (refl, refl))
      | else-nested-index-eq47 w ↦ holds_past (λ d a. NoneNested g two.upper two.lower d c.args.nested.now)
          c.args.nested.now c.loop-index.index (c.loop-index.invariant g is) w.if-nested-index-eq47.false
    ]

pub returns : goal.returns
returns c g is d e same s t k =
    let two = c.args.two.now in
    let over = rw same at k in
    holds_all (λ d a. NoneNested g two.upper two.lower d c.args.nested.now) c.args.nested.now c.loop-index.index
    (c.loop-index.invariant g is) (omega (arith, c.loop-index-test.false)) d over.nested.after
    (over.nested.here ∙ append_assoc d (slash ∷ []) over.nested.after) s t over
