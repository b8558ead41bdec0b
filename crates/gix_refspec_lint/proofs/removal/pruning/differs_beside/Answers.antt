use Rattle.gix_refspec_lint.proofs.Common.{refl}
use Rattle.gix_refspec_lint.proofs.lemmas.RemovalLemmas.{differ_told}
use Rattle.gix_refspec_lint.proofs.removal.pruning.differs_beside.Goals as goal

pub returns : goal.returns
returns c = differ_told _ _ _ _ c.in_ok-with.with c.in_ok-without.without c.in_ok-with.ensures c.in_ok-without.ensures
    (c.if-not-is_ref_name.ensures.0 refl)
