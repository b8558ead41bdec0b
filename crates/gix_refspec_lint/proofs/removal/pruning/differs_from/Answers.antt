use Rattle.gix_refspec_lint.proofs.Common.{IfOk-weaker}
use Rattle.gix_refspec_lint.proofs.lemmas.RemovalLemmas.{from_told}
use Rattle.gix_refspec_lint.proofs.removal.pruning.differs_from.Goals as goal

pub returns-in-Some : goal.returns-in-Some
returns-in-Some c =
    let (word, fits, made) = rw c.in-Some.is at c.in_ok-with_its_word.ensures in
    IfOk-weaker c.differs_alone.result _ _ (λ does. from_told _ _ _ _ _ _ _ word _ fits made does)
    (rw (c.as_bytes.ensures, c.as_bstr.ensures) at c.differs_alone.ensures)
