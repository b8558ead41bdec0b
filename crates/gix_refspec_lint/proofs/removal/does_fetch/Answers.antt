use Rattle.gix_refspec_lint.proofs.Common.{sym, subst, IfOk-weaker, IsSourceExcluded}
use Rattle.gix_refspec_lint.proofs.lemmas.IndexLemmas.{excluded_at}
use Rattle.gix_refspec_lint.proofs.lemmas.RemovalLemmas.{fetch_told}
use Rattle.gix_refspec_lint.proofs.removal.does_fetch.Goals as goal

pub returns-in-None : goal.returns-in-None
returns-in-None c g is = IfOk-weaker c.maps_alone.result _ _ (λ does. fetch_told g _ _ does (c.in-None.ensures g is))
    c.maps_alone.ensures

pub returns-in-Some : goal.returns-in-Some
returns-in-Some c g is (refs, d, makes, included) = let (n, named, (r, at, by)) = c.in-Some.ensures g is in included
    (subst (IsSourceExcluded g) (sym named) (excluded_at g _ r n at by))
