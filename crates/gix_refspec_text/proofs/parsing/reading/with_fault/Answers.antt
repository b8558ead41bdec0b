use Rattle.gix_refspec_text.proofs.Common.{subst, HasFault, with_letters}
use Rattle.gix_refspec_text.proofs.lemmas.texts.LetterLemmas.{letters-Lacks, replaces_one}
use Rattle.gix_refspec_text.proofs.parsing.reading.with_fault.Goals as goal

pub returns-in-No-clause-ok : goal.returns-in-No-clause-ok
returns-in-No-clause-ok c =
    let fault = subst (λ y. HasFault y c.args.fault) (letters-Lacks c.args.side.now c.in-No.ensures) c.requires.0 in
    (c.in-No.ensures, fault, c.requires)

pub returns-in-One-clause-err : goal.returns-in-One-clause-err
returns-in-One-clause-err c =
    let x = c.args.side.now in
    ((with_letters x, replaces_one _ _ x c.in-One.ensures, c.requires.0), c.requires)
