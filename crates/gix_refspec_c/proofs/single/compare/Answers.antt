-- The order is that of the instructions.
use Rattle.std.proofs.Common.{inr, refl}
use Rattle.gix_refspec.specs.Views.Spec.{reading_of}
use Rattle.gix_refspec_c.proofs.SingleLemmas.{compared}
use Rattle.gix_refspec_c.proofs.single.compare.Goals as goal

pub returns-in-Err-clause-err : goal.returns-in-Err-clause-err
returns-in-Err-clause-err c = (
  inr ((reading_of c.in_ok-first.first, c.in_ok-first.ensures.ok), c.in-Err.ensures.err),
  refl,
)

pub returns-clause-ok : goal.returns-clause-ok
returns-clause-ok c =
    compared c.args.operation c.args.a.now c.args.b.now (reading_of c.in_ok-first.first) (reading_of c.in-Ok.second)
    c.cmp.result c.sign_of.result
    c.in_ok-first.ensures.ok c.in-Ok.ensures.ok c.sign_of.ensures c.cmp.ensures c.equal_specs.ensures.same
    (c.equal_texts.ensures (reading_of c.in_ok-first.first) (reading_of c.in-Ok.second) c.in_ok-first.ensures.ok
    c.in-Ok.ensures.ok)
