use Rattle.gix_refspec_lint.proofs.{Common.arith, lemmas.OneSpecLemmas.alone_told}

pub returns : Rattle.gix_refspec_lint.proofs.exclusions.maps_alone.Goals.returns
returns c = grind (arith, alone_told)
