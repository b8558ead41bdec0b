use Rattle.gix_refspec_lint.proofs.Common.{refl, sym, subst, false≢true, IsSourceExcluded}
use Rattle.gix_refspec_lint.proofs.lemmas.IndexLemmas.{excluded_at}
use Rattle.gix_refspec_lint.proofs.conflicts.is_fetched.Goals as goal

pub returns-in-None : goal.returns-in-None
returns-in-None c g is = ((λ told. (c.if-not-is_valid_source.ensures.0 refl, c.in-None.ensures g is)), (λ both. refl))

pub returns-in-Some : goal.returns-in-Some
returns-in-Some c g is =
    let (n, named, (r, at, by)) = c.in-Some.ensures g is in (
      (λ told. absurd (false≢true told)),
      (λ both. absurd (both.1 (subst (IsSourceExcluded g) (sym named) (excluded_at g _ r n at by)))),
    )
