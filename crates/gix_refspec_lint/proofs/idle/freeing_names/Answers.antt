use Rattle.gix_refspec_lint.proofs.Common.{arith, map, bstring_bytes, refl}
use Rattle.gix_refspec_lint.proofs.lemmas.IdleLemmas.{freeing, frees_next, frees_none}
use Rattle.gix_refspec_lint.proofs.lemmas.IndexLemmas.{reading_at}
use Rattle.gix_refspec_lint.proofs.idle.freeing_names.Goals as goal

pub loop-at-init : goal.loop-at-init
loop-at-init c = frees_none _ _ _ _ c.args.others.from (rw c.new-names.ensures.items refl)

pub loop-at-preserved : goal.loop-at-preserved
loop-at-preserved c = grind (arith, frees_next, reading_at)

pub returns : goal.returns
returns c g is =
    freeing g _ is.completed c.args.others c.loop-at.at _ _ (map bstring_bytes c.in_ok-kept_away.kept_away.items) _ _
    (reading_at c.args.group.now.specs.now c.args.index c.index-group-index.result c.requires.0)
    (omega (arith, c.loop-at-test.false)) c.in_ok-kept_away.ensures c.loop-at.invariant
