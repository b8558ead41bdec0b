use Rattle.gix_refspec_lint.proofs.Common.{IfOk-weaker}
use Rattle.gix_refspec_lint.proofs.lemmas.RemovalLemmas.{alone_told}
use Rattle.gix_refspec_lint.proofs.removal.pruning.differs_alone.Goals as goal

pub returns : goal.returns
returns c = IfOk-weaker c.differs_beside.result _ _ (λ does. alone_told _ _ _ does)
    (rw (c.as_slice.ensures.value, c.new-remote.ensures.items) at c.differs_beside.ensures)
