use Rattle.std.proofs.Common.{length-append}
use Rattle.gix_refspec_lint.proofs.Common.{[], ◌∷◌, ap, arith, length}
use Rattle.gix_refspec_lint.proofs.lemmas.AlikeLemmas.{earlier_more}
use Rattle.gix_refspec_lint.proofs.alike.earlier_alike.Goals as goal

pub loop-index-preserved : goal.loop-index-preserved
loop-index-preserved c =
    let i = c.loop-index.index in
    let old = c.loop-index.earlier.items in
    let x = c.if_alike.result in (
      omega (arith, ap length c.in_ok-push.ensures.items, length-append old (x ∷ []), c.loop-index.invariant.0),
      earlier_more _ i old c.push.new.self.items x c.loop-index.invariant.0 c.in_ok-push.ensures.items
          c.if_alike.ensures
          c.loop-index.invariant.1,
    )
