use Rattle.gix_refspec_remote.proofs.Common.{◌++◌, ◌∙◌, ap, append-nil, codes, IfOk-weaker}
use Rattle.gix_refspec_remote.proofs.prefetching.stored_at.Goals as goal
use Rattle.gix_refspec_remote.specs.Prefetch.{in_refs}

pub returns-in-Some : goal.returns-in-Some
returns-in-Some c = IfOk-weaker c.joined-in-Some.result _ _
    (λ name is. in_refs c.in-Some.rest.now c.in-Some.ensures
    (is ∙ ap (λ y. codes "refs/prefetch/" ++ y) (append-nil c.in-Some.rest.now))) c.joined-in-Some.ensures
