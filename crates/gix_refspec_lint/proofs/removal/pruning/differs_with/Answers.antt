use Rattle.gix_refspec_lint.proofs.Common.{IfOk-weaker, refl}
use Rattle.gix_refspec_lint.proofs.lemmas.RemovalLemmas.{with_told}
use Rattle.gix_refspec_lint.proofs.removal.pruning.differs_with.Goals as goal

pub returns : goal.returns
returns c =
    IfOk-weaker c.differs_beside.result _ _
    (λ does. with_told _ _ _ _ _ does (rw c.new-remote.ensures.items at c.in_ok-add_item.ensures)
    (c.if-not-is_valid_source.ensures.0 refl)) (rw c.as_slice.ensures.value at c.differs_beside.ensures)
