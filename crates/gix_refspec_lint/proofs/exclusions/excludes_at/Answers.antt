use Rattle.gix_refspec_lint.proofs.{Common.{arith, IfOk-weaker}, lemmas.OneSpecLemmas.excludes_told}

pub returns : Rattle.gix_refspec_lint.proofs.exclusions.excludes_at.Goals.returns
returns c = grind (arith, IfOk-weaker, excludes_told)
