use Rattle.gix_refspec_lint.proofs.lemmas.AlikeLemmas.{earlier_read}
use Rattle.gix_refspec_lint.proofs.alike.if_alike.Goals as goal

pub returns-then-are_alike : goal.returns-then-are_alike
returns-then-are_alike c = earlier_read c.args.specs.now c.args.index c.in-Some.before c.index-specs-before.result
    c.index-specs-index.result c.if-before-index.true c.requires c.index-specs-before.is c.index-specs-index.is
    (c.are_alike.ensures c.if-are_alike.true)
