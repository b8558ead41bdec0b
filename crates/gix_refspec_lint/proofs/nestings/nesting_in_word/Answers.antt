-- The byte stands for each word after the slash.
use Rattle.gix_refspec_lint.proofs.Common.{[], refl, option_map, IfOk-weaker}
use Rattle.gix_refspec_lint.proofs.lemmas.NestFoundLemmas.{found_in_word, have_in_word, none_common, none_in_word}
use Rattle.gix_refspec_lint.specs.Views.Lint.{nesting_of}
use Rattle.gix_refspec_lint.proofs.nestings.nesting_in_word.Goals as goal

pub returns-in_default : goal.returns-in_default
returns-in_default c g is upper lower = none_in_word g _ is _ _ _ _ _ _ upper lower
    (none_common g _ is _ _ _ _ _ _ upper lower [] _ c.in_default.ensures)

pub returns-in-Some-2 : goal.returns-in-Some-2
returns-in-Some-2 c g is upper lower = rw c.in-Some-2.is at (c.in_ok-found.ensures g is)

pub returns : goal.returns
returns c g is upper lower =
    let have = have_in_word g _ is _ _ _ _ _ _ upper lower _ refl c.in-Some.common c.in-Some.ensures in
    IfOk-weaker c.nesting_freed.result _ _ (λ found told. found_in_word g _ is _ _ _ _ _ _ upper lower _ refl
    (option_map nesting_of found) told) (c.nesting_freed.ensures g is have)
