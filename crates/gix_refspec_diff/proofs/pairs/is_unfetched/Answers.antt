use Rattle.gix_refspec_diff.proofs.Common.{arith}
use Rattle.gix_refspec_lint.proofs.lemmas.FoundLemmas.{group_long}
use Rattle.gix_refspec_diff.proofs.lemmas.SoughtLemmas.{excluded_unfetched, fetches_of, unmapped_unfetched}
use Rattle.gix_refspec_diff.proofs.pairs.is_unfetched.Goals as goal

pub returns-in_default : goal.returns-in_default
returns-in_default c h is valid =
    let (n, named, (r, here, by)) = c.in_default.ensures h is in
    excluded_unfetched h _ _ _ valid.source valid.destination _ n r named here by

pub returns-in-None-2 : goal.returns-in-None-2
returns-in-None-2 c h is valid =
    unmapped_unfetched h _ _ _ valid.source valid.destination _ (group_long h c.args.group.now is)
    (λ j below. (rw c.in-None-2.is at (c.in_ok-first_of.ensures h is)) j (omega arith, below))

pub returns-in-Some : goal.returns-in-Some
returns-in-Some c h is valid =
    let found = rw c.in-Some.is at (c.in_ok-first_of.ensures h is) in
    (_, fetches_of h _ _ _ valid.source valid.destination _ found.1 (c.in-None.ensures h is))
