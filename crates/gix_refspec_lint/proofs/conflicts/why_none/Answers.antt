use Rattle.gix_refspec_lint.proofs.{Common.bstring_bytes, lemmas.FailLemmas.{first_fails, second_fails}}
use Rattle.gix_refspec_lint.proofs.conflicts.why_none.Goals as goal

pub returns-in-Some-why_not_fetched : goal.returns-in-Some-why_not_fetched
returns-in-Some-why_not_fetched c g is =
    first_fails g _ _ _ (bstring_bytes c.in-Some.source) _ (c.in-Some-why_not_fetched.ensures g is)
    (rw c.as_bytes.ensures at (rw c.in-Some.is at c.in_ok-source.ensures))

pub returns-in-Some-why_not_fetched-2 : goal.returns-in-Some-why_not_fetched-2
returns-in-Some-why_not_fetched-2 c g is =
    second_fails g _ _ _ (bstring_bytes c.in-Some-2.other_source) _ (c.in-Some-why_not_fetched-2.ensures g is)
    (rw c.as_bytes-2.ensures at (rw c.in-Some-2.is at c.in_ok-other_source.ensures))
